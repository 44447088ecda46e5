use Rattle.std.proofs.Common.{◌≡◌, ◌∙◌, ap, refl, subst, sym, true}
use Rattle.std.proofs.lemmas.Result.{IfOk-weaker}
use Rattle.adya_values.specs.Machinery.Packed.{entry_count, HasRoomIn}
use Rattle.adya_values.specs.Meaning.Histories.{Delete, Read, Scan, Write}
use Rattle.adya_keys.specs.Meaning.Keys.{is_key}
use Rattle.adya_values.specs.Mirror.Events.{entries_of, view_of}
use Rattle.adya_values.proofs.PackedRows.{extends_itself}
use Rattle.adya_values.proofs.arena.Arena.keep.Goals as goal

pub keep_write-requires-clause-key : goal.keep_write-requires-clause-key
keep_write-requires-clause-key c = subst (λ k. is_key k ≡ true) (sym c.bytes.ensures.same) c.bytes.ensures.limits

pub keep_write-requires-clause-value : goal.keep_write-requires-clause-value
keep_write-requires-clause-value c = c.bytes-in-Write.ensures.limits

pub keep_delete-requires : goal.keep_delete-requires
keep_delete-requires c = subst (λ k. is_key k ≡ true) (sym c.bytes-in-Delete.ensures.same) c.bytes-in-Delete.ensures.limits

pub keep_read-requires-clause-key : goal.keep_read-requires-clause-key
keep_read-requires-clause-key c = subst (λ k. is_key k ≡ true) (sym c.bytes-in-Read.ensures.same) c.bytes-in-Read.ensures.limits

pub keep_read-requires-clause-value : goal.keep_read-requires-clause-value
keep_read-requires-clause-value c = c.bytes-in-Read-2.ensures.limits

pub keep_scan-requires-clause-low : goal.keep_scan-requires-clause-low
keep_scan-requires-clause-low c = subst (λ k. is_key k ≡ true) (sym c.bytes-in-Scan.ensures.same) c.bytes-in-Scan.ensures.limits

pub keep_scan-requires-clause-high : goal.keep_scan-requires-clause-high
keep_scan-requires-clause-high c = subst (λ k. is_key k ≡ true) (sym c.bytes-in-Scan-2.ensures.same) c.bytes-in-Scan-2.ensures.limits

pub returns-in-Write : goal.returns-in-Write
returns-in-Write c =
    let w = c.in-Write in
    let same =
    ap (λ k. Write w.txn k w.m c.bytes-in-Write.result.now) c.bytes.ensures.same ∙
    (ap (Write w.txn w.key w.m) c.bytes-in-Write.ensures.same ∙ ap view_of (sym w.is)) in
    record {
      extends = c.keep_write.ensures.extends;
      row = c.keep_write.ensures.row;
      event = IfOk-weaker c.keep_write.result _ _ (λ row is. is ∙ same) c.keep_write.ensures.event;
      succeeds = λ room. c.keep_write.ensures.succeeds (subst (λ e. HasRoomIn c.args.self.now (entry_count (view_of e))) c.in-Write.is room);
    }

pub returns-in-Delete : goal.returns-in-Delete
returns-in-Delete c =
    let d = c.in-Delete in
    let same =
    ap (λ k. Delete d.txn k d.m) c.bytes-in-Delete.ensures.same ∙ ap view_of (sym d.is) in
    record {
      extends = c.keep_delete.ensures.extends;
      row = c.keep_delete.ensures.row;
      event = IfOk-weaker c.keep_delete.result _ _ (λ row is. is ∙ same) c.keep_delete.ensures.event;
      succeeds = λ room. c.keep_delete.ensures.succeeds (subst (λ e. HasRoomIn c.args.self.now (entry_count (view_of e))) c.in-Delete.is room);
    }

pub returns-in-Read : goal.returns-in-Read
returns-in-Read c =
    let r = c.in-Read in
    let v = r.version in
    let same =
    ap (λ k. Read r.txn (record { key = k; txn = v.txn; m = v.m }) c.bytes-in-Read-2.result.now) c.bytes-in-Read.ensures.same ∙
    (ap (Read r.txn v) c.bytes-in-Read-2.ensures.same ∙ ap view_of (sym r.is)) in
    record {
      extends = c.keep_read.ensures.extends;
      row = c.keep_read.ensures.row;
      event = IfOk-weaker c.keep_read.result _ _ (λ row is. is ∙ same) c.keep_read.ensures.event;
      succeeds = λ room. c.keep_read.ensures.succeeds (subst (λ e. HasRoomIn c.args.self.now (entry_count (view_of e))) c.in-Read.is room);
    }

pub returns-in-Scan : goal.returns-in-Scan
returns-in-Scan c =
    let s = c.in-Scan in
    let same =
    ap (λ k. Scan s.txn k c.bytes-in-Scan-2.result.now (entries_of s.entries)) c.bytes-in-Scan.ensures.same ∙
    (ap (λ k. Scan s.txn s.low k (entries_of s.entries)) c.bytes-in-Scan-2.ensures.same ∙ ap view_of (sym s.is)) in
    record {
      extends = c.keep_scan.ensures.extends;
      row = c.keep_scan.ensures.row;
      event = IfOk-weaker c.keep_scan.result _ _ (λ row is. is ∙ same) c.keep_scan.ensures.event;
      succeeds = λ room. c.keep_scan.ensures.succeeds (subst (λ e. HasRoomIn c.args.self.now (entry_count (view_of e))) c.in-Scan.is room);
    }

pub returns-in-Commit : goal.returns-in-Commit
returns-in-Commit c = record { extends = extends_itself c.args.self.now; row = refl; event = ap view_of (sym c.in-Commit.is); succeeds = λ room. refl }

pub returns-in-Abort : goal.returns-in-Abort
returns-in-Abort c = record { extends = extends_itself c.args.self.now; row = refl; event = ap view_of (sym c.in-Abort.is); succeeds = λ room. refl }

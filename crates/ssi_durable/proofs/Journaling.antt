-- What the calls of its log make of a journal.
use Rattle.std.proofs.Common.{◌≡◌, ℕ, ◌≤◌, Bool, true, false, List, [], ◌∷◌, ◌++◌, length, refl, sym, ◌∙◌, ap, subst, arith}
use Rattle.std.proofs.lemmas.List.{append-nil, append_assoc}
use Rattle.std.proofs.lemmas.List.Elements.{All-append, All-from_recursion}
use Rattle.std.proofs.lemmas.Bool.{false≢true}
use Rattle.std.specs.List.{All}
use Rattle.std.specs.Prelude.{◌≢◌}
use Rattle.sqlite_disk.specs.declared.Disk.{Ghosts}
use Rattle.adya_keys.specs.Meaning.Keys.{Bytes}
use Rattle.adya_line.specs.Meaning.Lines.{IsPlain}
use Rattle.adya_text.specs.Meaning.Texts.{with_ends}
use Rattle.ssi_log.specs.declared.fault.LogFault.{LogFault}
use Rattle.ssi_log.specs.declared.fault.LogFault.TheVariants as fault
use Rattle.ssi_log.specs.declared.log.Log.{Log}
use Rattle.ssi_log.specs.Clauses.Faults.{ExtendFails}
use Rattle.ssi_log.specs.Meaning.Crashes.{Keeps}
use Rattle.ssi_log.specs.Meaning.Texts.{HasNoZero}
use Rattle.ssi_log.specs.Machinery.Standing.{HasText, MayGoOn, disk_of, synced_of}
use Rattle.ssi_durable.specs.Clauses.Journals.{HasAll, IsLogging, IsJournal, LeavesLines, is_full}
use Rattle.ssi_durable.proofs.WholeLines.{ends_append}
use Rattle.ssi_durable.proofs.Betweens.{leaves, leaves_more}

feed_is_something : (b : ℕ) → b ≡ 10 → b ≢ 0
feed_is_something b is e = absurd (omega (arith, is, e))

-- what an open log says of its file
abbrev pub OpenKeeps : {D : Type 0} {disk : Ghosts D} → Log D disk → Type 0
OpenKeeps {disk = disk} log = (text : Bytes) → HasText log text → Keeps (disk.may_leave (disk_of log)) text (synced_of log)

-- and of its text
abbrev pub IsBounded : {D : Type 0} {disk : Ghosts D} → Log D disk → Type 0
IsBounded log = (text : Bytes) → HasText log text → synced_of log ≤ length text

-- after it the log goes on
pub may_go_on : (f : LogFault) → is_full f ≡ true → MayGoOn f
may_go_on (fault.Full error) is = tt
may_go_on fault.Closed is = absurd (false≢true is)
may_go_on fault.NoEnd is = absurd (false≢true is)
may_go_on fault.NoRoom is = tt
may_go_on fault.Memory is = absurd (false≢true is)
may_go_on (fault.Failed error) is = absurd (false≢true is)

module _ {D : Type 0} {disk : Ghosts D} where
  -- whatever a call of the log came to, a crash leaves at least what was synced before it
  pub still_left : (log after : Log D disk) (buffer : Bytes) (settled : Bool) (sure all : List Bytes) (tail : Bytes)
      → (was : IsJournal log buffer settled false sure all) → (text : Bytes) → text ++ tail ≡ with_ends all
      → Keeps (disk.may_leave (disk_of after)) text (synced_of log) → LeavesLines (disk.may_leave (disk_of after)) sure all
  still_left log after buffer settled sure all tail was text whole keeps =
      leaves (disk.may_leave (disk_of after)) sure was.more all text tail (synced_of log) was.parts was.plain whole
      (was.going refl).kept keeps

  goes_on : (log after : Log D disk) (buffer : Bytes) (settled : Bool) (sure all more : List Bytes) → All IsPlain all
      → all ≡ sure ++ more → LeavesLines (disk.may_leave (disk_of after)) sure all → IsLogging after buffer settled sure all
      → IsJournal after buffer settled false sure all
  goes_on log after buffer settled sure all more plain parts left logging = record {
    plain = plain;
    more = more;
    parts = parts;
    left = left;
    going = λ e. logging;
    ended = λ e. absurd (false≢true e);
  }

  fails : (after : Log D disk) (buffer : Bytes) (sure all more : List Bytes) → All IsPlain all → all ≡ sure ++ more
      → LeavesLines (disk.may_leave (disk_of after)) sure all → IsJournal after buffer false true sure all
  fails after buffer sure all more plain parts left = record {
    plain = plain;
    more = more;
    parts = parts;
    left = left;
    going = λ e. absurd (false≢true (sym e));
    ended = λ e. refl;
  }

  -- a new one
  pub begins : (log : Log D disk) (lines : List Bytes) → HasAll log lines → OpenKeeps log → IsJournal log [] true false lines lines
  begins log lines all keeps =
      goes_on log log [] true lines lines [] all.plain (sym (append-nil lines))
      (leaves (disk.may_leave (disk_of log)) lines [] lines (with_ends lines) [] (synced_of log) (sym (append-nil lines)) all.plain
      (append-nil (with_ends lines)) (omega (arith, all.synced)) (keeps (with_ends lines) all.has)) (record {
        text = with_ends lines;
        has = all.has;
        whole = append-nil (with_ends lines);
        clean = All-from_recursion _ [] tt;
        kept = omega (arith, all.synced);
        nothing = λ e. refl;
        synced = λ e. all.synced;
      })

  -- a line was added to the buffer
  pub line_added : (log : Log D disk) (buffer line : Bytes) (settled : Bool) (sure all : List Bytes)
      → IsJournal log buffer settled false sure all → All (λ b. b ≢ 10) line → HasNoZero line
      → IsJournal log (buffer ++ (line ++ (10 ∷ []))) false false sure (all ++ (line ∷ []))
  line_added log buffer line settled sure all was plain clean =
      let on = was.going refl in
      goes_on log log (buffer ++ (line ++ (10 ∷ []))) false sure (all ++ (line ∷ [])) (was.more ++ (line ∷ []))
      (All-append IsPlain all (line ∷ []) was.plain (All-from_recursion IsPlain (line ∷ []) (plain, tt)))
      (ap (λ (ls : List Bytes). ls ++ (line ∷ [])) was.parts ∙ append_assoc sure was.more (line ∷ []))
      (leaves_more (disk.may_leave (disk_of log)) sure all (line ∷ []) was.left) (record {
        text = on.text;
        has = on.has;
        whole = sym (append_assoc on.text buffer (line ++ (10 ∷ []))) ∙ ap (λ (t : Bytes). t ++ (line ++ (10 ∷ []))) on.whole
            ∙ sym (ends_append all (line ∷ []));
        clean = All-append (λ b. b ≢ 0) buffer (line ++ (10 ∷ [])) on.clean
            (All-append (λ b. b ≢ 0) line (10 ∷ []) clean (All-from_recursion (λ b. b ≢ 0) (10 ∷ []) (feed_is_something 10 refl, tt)));
        kept = on.kept;
        nothing = λ e. absurd (false≢true e);
        synced = λ e. absurd (false≢true e);
      })

  -- the buffer was handed over
  pub handed : (log after : Log D disk) (buffer : Bytes) (settled : Bool) (sure all : List Bytes)
      → IsJournal log buffer settled false sure all
      → ((text : Bytes) → HasText log text → HasNoZero buffer → HasText after (text ++ buffer))
      → ((text : Bytes) → HasText log text → HasNoZero buffer
      → Keeps (disk.may_leave (disk_of after)) (text ++ buffer) (synced_of log))
      → synced_of after ≡ synced_of log → IsJournal after [] settled false sure all
  handed log after buffer settled sure all was text crash synced =
      let on = was.going refl in
      goes_on log after [] settled sure all was.more was.plain was.parts
      (still_left log after buffer settled sure all [] was (on.text ++ buffer) (append-nil (on.text ++ buffer) ∙ on.whole)
      (crash on.text on.has on.clean)) (record {
        text = on.text ++ buffer;
        has = text on.text on.has on.clean;
        whole = append-nil (on.text ++ buffer) ∙ on.whole;
        clean = All-from_recursion _ [] tt;
        kept = omega (arith, on.kept, synced);
        nothing = λ e. refl;
        synced = λ e. synced ∙ on.synced e
            ∙ sym (ap length (ap (λ (b : Bytes). on.text ++ b) (on.nothing e) ∙ append-nil on.text));
      })

  -- it couldn't be
  pub not_handed : (log after : Log D disk) (buffer : Bytes) (settled : Bool) (sure all : List Bytes)
      → IsJournal log buffer settled false sure all
      → ((text : Bytes) → HasText log text → HasNoZero buffer
      → Keeps (disk.may_leave (disk_of after)) (text ++ buffer) (synced_of log))
      → IsJournal after buffer false true sure all
  not_handed log after buffer settled sure all was crash =
      let on = was.going refl in
      fails after buffer sure all was.more was.plain was.parts
      (still_left log after buffer settled sure all [] was (on.text ++ buffer) (append-nil (on.text ++ buffer) ∙ on.whole)
      (crash on.text on.has on.clean))

  -- the text of the log is the same, and no less of it is synced
  pub stays : (log after : Log D disk) (buffer : Bytes) (settled : Bool) (sure all : List Bytes)
      → IsJournal log buffer settled false sure all
      → ((text : Bytes) → HasText log text → HasText after text)
      → ((text : Bytes) → HasText log text → Keeps (disk.may_leave (disk_of after)) text (synced_of log))
      → synced_of after ≡ synced_of log → IsJournal after buffer settled false sure all
  stays log after buffer settled sure all was text crash synced =
      let on = was.going refl in
      goes_on log after buffer settled sure all was.more was.plain was.parts
      (still_left log after buffer settled sure all buffer was on.text on.whole (crash on.text on.has)) (record {
        text = on.text;
        has = text on.text on.has;
        whole = on.whole;
        clean = on.clean;
        kept = omega (arith, on.kept, synced);
        nothing = on.nothing;
        synced = λ e. synced ∙ on.synced e;
      })

  -- the text of the log is the same, and all of it is synced
  pub syncs : (log after : Log D disk) (buffer : Bytes) (settled : Bool) (sure all : List Bytes)
      → IsJournal log buffer settled false sure all → IsBounded log
      → ((text : Bytes) → HasText log text → HasText after text × (synced_of after ≡ length text))
      → ((text : Bytes) → HasText log text → Keeps (disk.may_leave (disk_of after)) text (synced_of log))
      → IsJournal after buffer settled false sure all
  syncs log after buffer settled sure all was bounded text crash =
      let on = was.going refl in
      let now = text on.text on.has in
      goes_on log after buffer settled sure all was.more was.plain was.parts
      (still_left log after buffer settled sure all buffer was on.text on.whole (crash on.text on.has)) (record {
        text = on.text;
        has = now.0;
        whole = on.whole;
        clean = on.clean;
        kept = omega (arith, on.kept, bounded on.text on.has, now.1);
        nothing = on.nothing;
        synced = λ e. now.1;
      })

  -- with nothing in the buffer it is settled then
  pub settles : (log after : Log D disk) (buffer : Bytes) (settled : Bool) (sure all : List Bytes) → buffer ≡ []
      → IsJournal log buffer settled false sure all → IsBounded log
      → ((text : Bytes) → HasText log text → HasText after text × (synced_of after ≡ length text))
      → ((text : Bytes) → HasText log text → Keeps (disk.may_leave (disk_of after)) text (synced_of log))
      → IsJournal after buffer true false sure all
  settles log after buffer settled sure all nothing was bounded text crash =
      let on = was.going refl in
      let now = text on.text on.has in
      goes_on log after buffer true sure all was.more was.plain was.parts
      (still_left log after buffer settled sure all buffer was on.text on.whole (crash on.text on.has)) (record {
        text = on.text;
        has = now.0;
        whole = on.whole;
        clean = on.clean;
        kept = omega (arith, on.kept, bounded on.text on.has, now.1);
        nothing = λ e. nothing;
        synced = λ e. now.1;
      })

  -- the call failed
  pub fails_to_stay : (log after : Log D disk) (buffer : Bytes) (settled : Bool) (sure all : List Bytes)
      → IsJournal log buffer settled false sure all
      → ((text : Bytes) → HasText log text → Keeps (disk.may_leave (disk_of after)) text (synced_of log))
      → IsJournal after buffer false true sure all
  fails_to_stay log after buffer settled sure all was crash =
      let on = was.going refl in
      fails after buffer sure all was.more was.plain was.parts
      (still_left log after buffer settled sure all buffer was on.text on.whole (crash on.text on.has))

  -- all lines of one that is settled are sure
  pub all_sure : (log : Log D disk) (buffer : Bytes) (settled failed : Bool) (sure all : List Bytes) → settled ≡ true
      → IsJournal log buffer settled failed sure all → OpenKeeps log → IsJournal log buffer settled failed all all
  all_sure log buffer settled true sure all is was keeps = absurd (false≢true (sym (was.ended refl) ∙ is))
  all_sure log buffer settled false sure all is was keeps =
      let on = was.going refl in
      let whole : on.text ≡ with_ends all =
      sym (append-nil on.text) ∙ sym (ap (λ (b : Bytes). on.text ++ b) (on.nothing is)) ∙ on.whole in
      let kept : length (with_ends all) ≤ synced_of log = omega (arith, on.synced is, ap length whole) in
      goes_on log log buffer settled all all [] was.plain (sym (append-nil all))
      (leaves (disk.may_leave (disk_of log)) all [] all on.text buffer (synced_of log) (sym (append-nil all)) was.plain on.whole kept
      (keeps on.text on.has)) (record {
        text = on.text;
        has = on.has;
        whole = on.whole;
        clean = on.clean;
        kept = kept;
        nothing = on.nothing;
        synced = on.synced;
      })

  -- a full disk leaves what is synced
  pub full_is_same : (log after : Log D disk) (more : ℕ) (f : LogFault) → is_full f ≡ true
      → ExtendFails log after more f → synced_of after ≡ synced_of log
  full_is_same log after more (fault.Full error) is fails = fails.1
  full_is_same log after more fault.Closed is fails = absurd (false≢true is)
  full_is_same log after more fault.NoEnd is fails = absurd (false≢true is)
  full_is_same log after more fault.NoRoom is fails = absurd (false≢true is)
  full_is_same log after more fault.Memory is fails = absurd (false≢true is)
  full_is_same log after more (fault.Failed error) is fails = absurd (false≢true is)

  -- flags that are known
  pub with_flags : (log : Log D disk) (buffer : Bytes) (s t f g : Bool) (sure all : List Bytes) → s ≡ t → f ≡ g
      → IsJournal log buffer s f sure all → IsJournal log buffer t g sure all
  with_flags log buffer s t f g sure all se fe j =
      subst (λ (x : Bool). IsJournal log buffer x g sure all) se (subst (λ (x : Bool). IsJournal log buffer s x sure all) fe j)

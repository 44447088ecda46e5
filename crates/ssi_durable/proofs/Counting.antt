-- How commits are counted, and what a look at the counts of a store leaves.
use Rattle.std.proofs.Common.{◌≡◌, ℕ, Bool, true, false, Some, List, ◌∷◌, ◌++◌, sym, ◌∙◌, ap, subst}
use Rattle.std.proofs.lemmas.Option.{same_Some}
use Rattle.sqlite_disk.specs.declared.Disk.{Ghosts}
use Rattle.adya_keys.specs.Meaning.Keys.{Bytes}
use Rattle.adya_line.specs.Meaning.Lines.{IsPlain}
use Rattle.ssi_store.specs.Meaning.Courses.{Course}
use Rattle.ssi_hub.specs.Clauses.Buffers.{Buffers}
use Rattle.ssi_hub.specs.Clauses.Calls.{Call}
use Rattle.ssi_hub.specs.Mirror.{buffers_of}
use Rattle.ssi_durable.specs.declared.server.Server.{Server}
use Rattle.ssi_durable.specs.Meaning.Lines.{whole_lines}
use Rattle.ssi_durable.specs.Clauses.Counts.{commits_with}
use Rattle.ssi_durable.specs.Clauses.Serving.{Began}
use Rattle.ssi_durable.specs.Machinery.Noting.{noted}
use Rattle.ssi_durable.specs.Mirror.Servers.{Serves, HasCounted, commits_of, hub_of, store_of}
use Rattle.ssi_durable.proofs.WholeLines.{lines_next}

same_first : (a b : Bytes) (more others : List Bytes) → a ∷ more ≡ b ∷ others → a ≡ b
same_first a b more others e = cc

module _ {S D : Type 0} {disk : Ghosts D} where
  -- the first line that waits was counted
  pub first_counted : (old new : Server S D disk) (t : ℕ) (x : Buffers) (front rest : Bytes)
      → buffers_of (hub_of old) t ≡ Some x → IsPlain front → x.waiting ≡ front ++ (10 ∷ rest)
      → commits_of new ≡ commits_with (noted front) (commits_of old) → HasCounted t true old new
  first_counted old new t x front rest has plain cut is = λ b line left there whole waits.
      let same = same_Some x b (sym has ∙ there) in
      let one = same_first front line (whole_lines rest) (whole_lines left)
      (sym (lines_next x.waiting front rest plain cut) ∙ ap (λ (y : Buffers). whole_lines y.waiting) same
      ∙ lines_next b.waiting line left whole waits) in
      is ∙ ap (λ (l : Bytes). commits_with (noted l) (commits_of old)) one

  pub counted_since : (counts : Bool) (old mid new : Server S D disk) (t : ℕ) → hub_of mid ≡ hub_of old
      → commits_of mid ≡ commits_of old → HasCounted t counts mid new → HasCounted t counts old new
  counted_since false old mid new t hub same is = is ∙ same
  counted_since true old mid new t hub same is = λ b line rest has plain waits.
      is b line rest (ap (λ (h : _). buffers_of h t) hub ∙ has) plain waits
      ∙ ap (λ (m : ℕ). commits_with (noted line) m) same

  -- with a store that stands for what it stood for
  pub looked : (dumps : Bool) (is_at : S → Course → Type 0) (n : ℕ) (began : Began) (old new : Server S D disk) (calls : List Call)
      → new ≡ record old { store = store_of new } → ((c : Course) → is_at (store_of old) c → is_at (store_of new) c)
      → Serves dumps is_at n began old calls → Serves dumps is_at n began new calls
  looked dumps is_at n began old new calls same still was =
      subst (λ (s : Server S D disk). Serves dumps is_at n began s calls) (sym same) (record {
        since = was.since;
        parts = was.parts;
        stands = was.stands;
        gone = record {
          has_header = was.gone.has_header;
          start = was.gone.start;
          replayed = was.gone.replayed;
          end = was.gone.end;
          led = was.gone.led;
          at = still was.gone.end was.gone.at;
        };
        told = was.told;
        mode = was.mode;
        sure = was.sure;
        rests = was.rests;
        keeps = was.keeps;
      })

-- From one segment to the next.
use Rattle.std.proofs.Common.{◌≡◌, ◌<◌, ◌^◌, ℕ, Bool, List, ◌++◌, None, sym, ap, subst, ◌∙◌, arith}
use Rattle.std.specs.List.{All, AllByRecursion}
use Rattle.sqlite_disk.specs.declared.Disk.{Ghosts}
use Rattle.adya_keys.specs.Meaning.Keys.{Bytes}
use Rattle.adya_line.specs.Meaning.Limits.{IsFinal}
use Rattle.adya_line.specs.Meaning.Lines.{IsPlain}
use Rattle.adya_text.specs.Meaning.Texts.{with_ends}
use Rattle.adya_values.specs.Meaning.Histories.{FinalPair}
use Rattle.ssi_store.specs.Meaning.Contents.{contents_after}
use Rattle.ssi_store.specs.Meaning.Courses.{Course, txn_in}
use Rattle.ssi_hub.specs.Clauses.Calls.{Call}
use Rattle.ssi_files.specs.Meaning.Names.{IsNumber}
use Rattle.ssi_log.specs.declared.log.Log.{Log}
use Rattle.ssi_log.specs.Meaning.Texts.{HasNoZero}
use Rattle.ssi_durable.specs.declared.server.Server.{Server}
use Rattle.ssi_durable.specs.Clauses.Journals.{HasAll}
use Rattle.ssi_durable.specs.Clauses.Recovery.{IsReplayed}
use Rattle.ssi_durable.specs.Clauses.Serving.{Began, begun_next}
use Rattle.ssi_durable.specs.Mirror.Servers.{Serves, store_of}
use Rattle.ssi_loads.specs.Laws.{FirstLinesArePlain, FirstLinesAreClean}
use Rattle.ssi_loads.specs.Meaning.Loads.{first_lines}
use Rattle.ssi_cli.specs.Clauses.Leaving.{abort_calls}
use Rattle.ssi_data.specs.declared.fault.DataFault.{DataFault}
use Rattle.ssi_data.specs.declared.rotation.Rotation.{Rotation}
use Rattle.ssi_data.specs.declared.rotation.Rotation.TheVariants.{Kept}
use Rattle.ssi_data.specs.Clauses.Aborting.{HasAbortedOpen}
use Rattle.ssi_data.specs.Clauses.Rotations.{HasMoved, HasRotated}

-- the first lines of the next segment are plain and clean, so they are loaded
pub loads : (Has : ℕ → List Bytes → Type 0) (plain : FirstLinesArePlain) (clean : FirstLinesAreClean) (n first then : ℕ)
    → first ≡ n → then ≡ n → IsNumber n → (rows now : List FinalPair) (text : Bytes) → rows ≡ now → AllByRecursion IsFinal rows
    → text ≡ with_ends (first_lines first rows)
    → ((lines : List Bytes) → All IsPlain lines → text ≡ with_ends lines → HasNoZero text → Has then lines)
    → Has n (first_lines n now)
loads Has plain clean n first then one other small rows now text same within is loaded =
    let within_u32 : n < 2 ^ 32 = omega (arith, small.1) in
    let here = is ∙ ap (λ (m : ℕ). with_ends (first_lines m rows)) one in
    subst (λ (l : List FinalPair). Has n (first_lines n l)) same
    (subst (λ (m : ℕ). Has m (first_lines n rows)) other
    (loaded (first_lines n rows) (plain n rows within_u32 within) here
    (subst (λ (t : Bytes). HasNoZero t) (sym here) (clean n rows within_u32 within))))

module _ {T D : Type 0} {disk : Ghosts D} (dumps : Bool) (is_at : T → Course → Type 0) (next : ℕ) where
  -- each session was aborted, and then the server has begun the next segment with what the store held
  pub moves : (old mid seen new : Server T D disk) (store : T) (log : Log D disk) → seen ≡ mid
      → HasAbortedOpen dumps is_at old mid
      → ((c : Course) → is_at (store_of mid) c → (s : Bytes) → txn_in s c ≡ None)
      → ((c : Course) → is_at (store_of seen) c → IsReplayed is_at next (first_lines next (contents_after c)) store
      × HasAll log (first_lines next (contents_after c)))
      → ((n number : ℕ) (began : Began) (lines : List Bytes) (calls : List Call) → Serves dumps is_at n began mid calls
      → IsReplayed is_at number lines store → HasAll log lines
      → Serves dumps is_at number (begun_next began lines calls) new calls)
      → (n : ℕ) (began : Began) (calls : List Call) → Serves dumps is_at n began old calls → HasMoved dumps is_at next began calls new
  moves old mid seen new store log same has none loaded begins = λ n began calls s.
      let (aborts, serves, are) = has n began calls s in
      let course = serves.gone.end in
      let (replayed, all) =
      loaded course (subst (λ (v : Server T D disk). is_at (store_of v) course) (sym same) serves.gone.at) in
      record {
        aborts = aborts;
        are = are;
        course = course;
        come = record {
          since = serves.since;
          parts = serves.parts;
          start = serves.gone.start;
          replayed = serves.gone.replayed;
          led = serves.gone.led;
        };
        idle = none course serves.gone.at;
        serves = begins n next began (first_lines next (contents_after course)) (abort_calls aborts ++ calls) serves replayed all;
      }

  -- it goes on as it was, but for the aborts
  pub keeps : (old mid new : Server T D disk) (r : Rotation) (fault : DataFault) → r ≡ Kept fault → new ≡ mid
      → HasAbortedOpen dumps is_at old mid → HasRotated dumps is_at next old new r
  keeps old mid new r fault is same has =
      subst (λ (v : Rotation). HasRotated dumps is_at next old new v) (sym is)
      (subst (λ (s : Server T D disk). HasAbortedOpen dumps is_at old s) (sym same) has)

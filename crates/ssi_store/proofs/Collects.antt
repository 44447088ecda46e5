-- Collect and stat.
use Rattle.std.specs.List.{All, Contains}
use Rattle.std.proofs.Common.{List, [], ap, filter, inl, length, map, not, refl, subst, suc, sym, ℕ, ◌&&◌, ◌||◌, ◌<◌, ◌∙◌, ◌∷◌, ◌≡◌}
use Rattle.std.proofs.lemmas.List.{append-nil}
use Rattle.std.proofs.lemmas.List.Elements.{All-filter}
use Rattle.lemmas.proofs.Filters.{filter-source}
use Rattle.lemmas.proofs.Members.{map-source}
use Rattle.ssi_versions.specs.Meaning.Changes.{Held, held, held_count}
use Rattle.ssi_versions.specs.Clauses.Conditions.{IsProtected}
use Rattle.ssi_versions.specs.Clauses.ByStamp.{is_wanted}
use Rattle.ssi_versions.specs.Mirror.{chain_of, key_total, IsAbove}
use Rattle.ssi_conflict.specs.Meaning.Calls.{is_aborted, is_committed, is_open as is_open_told}
use Rattle.ssi_conflict.specs.Meaning.Kept.{kept_count, open_count}
use Rattle.ssi_store.specs.Meaning.Acts.{Act, Collects, acts, has_committed, has_begun, is_open, open_txns, begun}
use Rattle.ssi_store.specs.Meaning.Courses.{Command as Do, Counts, Course, Kept, Then}
use Rattle.ssi_store.specs.Meaning.Recording.{events}
use Rattle.ssi_store.specs.Meaning.Seeing.{changed, open_snapshots, snapshot}
use Rattle.ssi_store.specs.Mirror.Standing.{Parts, StandsFor, with_snapshots}
use Rattle.ssi_store.specs.Meaning.Tracked.{tracked}
use Rattle.ssi_store.specs.Machinery.Below.{Below}
use Rattle.ssi_store.specs.Machinery.Opens.{Sessions, open_at, IsOpen}
use Rattle.ssi_store.proofs.ChangesAllowed.{changed_installable, open_protected}
use Rattle.ssi_store.proofs.Lists.{filter_within}
use Rattle.ssi_store.proofs.Steps.{both, settled}
use Rattle.ssi_store.proofs.TrackedCalls.{aborted_told, begun_are, begun_told, is_committed_told}

-- the two halves of the pairs
pub first_halves : (f : ℕ → ℕ) (ts : List ℕ) → map (λ (e : ℕ × ℕ). e.0) (map (λ t. (t, f t)) ts) ≡ ts
first_halves f [] = refl
first_halves f (t ∷ ts) = ap (λ us. t ∷ us) (first_halves f ts)

second_halves : (f : ℕ → ℕ) (ts : List ℕ) → map (λ (e : ℕ × ℕ). e.1) (map (λ t. (t, f t)) ts) ≡ map f ts
second_halves f [] = refl
second_halves f (t ∷ ts) = ap (λ us. f t ∷ us) (second_halves f ts)

as_many : (ts : List ℕ) (log : List Act) → length (with_snapshots ts log) ≡ length ts
as_many [] log = refl
as_many (t ∷ ts) log = ap suc (as_many ts log)

-- what is kept has no greater stamps
pub above_kept : (n : ℕ) (ss : List ℕ) (old new : List Held) → IsAbove n old
    → ((k : List ℕ) → chain_of k new ≡ filter (is_wanted ss (chain_of k old)) (chain_of k old)) → IsAbove n new
above_kept n ss old new above kept k =
    subst (All (λ h. h.stamp < n)) (sym (kept k))
    (All-filter (is_wanted ss (chain_of k old)) (λ h. h.stamp < n) (chain_of k old) (above k))

open_told : (t : ℕ) (log : List Act) → is_open_told t (tracked log) ≡ is_open t log
open_told t log =
    ap (λ b. b && not (is_committed t (tracked log) || is_aborted t (tracked log))) (begun_told t log)
    ∙ ap (λ b. has_begun t log && not (b || is_aborted t (tracked log))) (is_committed_told t log)
    ∙ ap (λ b. has_begun t log && not (has_committed t log || b)) (aborted_told t log)

module _ {p : Parts} {next : ℕ} {es : Sessions} {c : Course} (st : StandsFor p next es c) (b : Below) where
  snapshots_are : map (λ (e : ℕ × ℕ). e.1) p.opened ≡ open_snapshots (acts c)
  snapshots_are = ap (map (λ (e : ℕ × ℕ). e.1)) st.log.opened ∙ second_halves (λ t. snapshot t (acts c)) (open_txns (acts c))

  protected : (s : ℕ) → Contains (open_snapshots (acts c)) s → IsProtected s (changed (acts c))
  protected s d =
      let t = map-source (λ x. snapshot x (acts c)) (open_txns (acts c)) s d in
      subst (λ n. IsProtected n (changed (acts c))) t.2
      (open_protected (acts c) (settled st).sound t.0
      (filter-source (λ u. is_open u (acts c)) (begun (acts c)) t.0 t.1).1)

  pub collected : (holds' : List Held) (n : ℕ) (ss : List ℕ) → ss ≡ map (λ (e : ℕ × ℕ). e.1) p.opened → n ≡ length holds'
      → ((k : List ℕ) → chain_of k holds' ≡ filter (is_wanted ss (chain_of k p.holds)) (chain_of k p.holds))
      → StandsFor (record p { holds = holds' }) next es (Then c Do.Collect (Kept n))
  collected holds' n ss are many kept =
      let log : List Act = acts c in
      let chains : (k : List ℕ) → chain_of k holds' ≡ held k (changed (Collects ∷ log)) =
      λ k. kept k ∙ ap (λ l. filter (is_wanted l (chain_of k p.holds)) (chain_of k p.holds)) (are ∙ snapshots_are)
      ∙ ap (λ hs. filter (is_wanted (open_snapshots log) hs) hs) (st.log.chains k)
      ∙ sym (b.collects (changed log) (changed_installable log) (open_snapshots log) protected k) in
      record {
        follows = (refl, inl (ap Kept (many ∙ b.counts_held holds' (changed (Collects ∷ log)) chains)), st.follows);
        log = record {
          commits = st.log.commits;
          chains = chains;
          tracker = st.log.tracker;
          events = subst p.recorded (sym (append-nil (events log))) st.log.events;
          opened = st.log.opened;
          snapshots = st.log.snapshots;
        };
        next_is = st.next_is;
        txns = st.txns;
        views = λ s. both (IsOpen log) (IsOpen (Collects ∷ log)) (open_at s es)
            (λ o at is. record { stamp = is.stamp; count = is.count; own = is.own; keys = is.keys }) (st.views s);
      }

  pub counted : (n kept versions keys : ℕ) → n ≡ length p.opened → kept ≡ kept_count (tracked (acts c))
      → versions ≡ length p.holds → keys ≡ key_total p.holds
      → StandsFor p next es (Then c Do.Stat (Counts n kept versions keys))
  counted n kept versions keys are_open are_kept are_versions are_keys =
      let log : List Act = acts c in
      let opened : n ≡ open_count (tracked log) = are_open ∙ ap length st.log.opened
      ∙ as_many (open_txns log) log
      ∙ sym (ap (λ ts. length (filter (λ t. is_open_told t (tracked log)) ts)) (begun_are log)
      ∙ ap length (filter_within (λ t. is_open_told t (tracked log)) (λ t. is_open t log) (begun log)
      (λ t d. open_told t log))) in
      record {
        follows = (
          refl,
          inl (ap (λ x. Counts x kept versions keys) opened
              ∙ ap (λ x. Counts (open_count (tracked log)) x versions keys) are_kept
              ∙ ap (λ x. Counts (open_count (tracked log)) (kept_count (tracked log)) x keys)
              (are_versions ∙ b.counts_held p.holds (changed log) st.log.chains)
              ∙ ap (Counts (open_count (tracked log)) (kept_count (tracked log)) (held_count (changed log)))
              (are_keys ∙ b.counts_keys p.holds (changed log) st.log.chains)),
          st.follows,
        );
        log = st.log;
        next_is = st.next_is;
        txns = st.txns;
        views = st.views;
      }

-- Every cycle of a snapshot history holds a dangerous structure: an edge leads to a transaction that began later, or
-- is an anti-dependency between concurrent ones. So the two edges to the first of the cycle to commit are of that kind.
use Rattle.std.proofs.Common.{◌≡◌, ◌≢◌, ℕ, zero, suc, ◌==◌, ◌<◌, ◌≤◌, ◌⊎◌, Bool, true, false, cond, ◌&&◌, ◌||◌, nat_lt, List, [], ◌∷◌, Some, refl, sym, ◌∙◌, ap, subst, arith, inl, inr}
use Rattle.std.specs.List.{Contains}
use Rattle.std.proofs.lemmas.Bool.{and_parts, cases_lt, eqb-true, ltb-true, or_cases}
use Rattle.std.proofs.lemmas.Option.{none-some, same_Some}
use Rattle.lemmas.proofs.Members.{none_contained, Contains-head, Contains-cons, Contains-cases}
use Rattle.adya_values.specs.Meaning.Histories.{Event, History}
use Rattle.adya_values.specs.Meaning.Events.{txn_of}
use Rattle.adya_values.specs.Meaning.Orders.{installer, is_visible_at}
use Rattle.adya_values.specs.Meaning.Selections.{changes_matches, is_scan, reads_from}
use Rattle.adya_values.specs.Meaning.Edges.{Kind, Ww, Wr, Rw, Edge, IsPath, IsCycle, Depends}
use Rattle.adya_values.specs.Clauses.Acceptance.{IsChecked}
use Rattle.snapshot_histories.specs.Clauses.Snapshots.{stamp_in, AreConcurrent, IsNewestWithin, IsSnapshotHistory, IsDangerous, IsSafe}
use Rattle.snapshot_histories.specs.Clauses.Cycles.{Turn, turns, HasDanger}
use Rattle.snapshot_histories.proofs.Commits.{same_stamp, installer_committed, committed_ends}
use Rattle.snapshot_histories.proofs.Turns.{IsTurn, turn_is, turn_there, turn_out_of, turns_made, least}

-- a read or scan depends on versions up to the one that it selects
source_within : (h : History) (e : Event) (k : List ℕ) (p q : ℕ) → reads_from h e k p q ≡ true → (q ≡ p) ⊎ (q < p)
source_within h e k p q t =
    elim (or_cases _ _ t) [
      | inl same ↦ inl (eqb-true q p same)
      | inr scan ↦ inr (ltb-true q p (and_parts _ _ (and_parts _ _ scan).1).0)
    ]

-- and is overwritten by later ones
next_above : (h : History) (k : List ℕ) (p q : ℕ) (scan : Bool)
    → cond scan (nat_lt p q && (changes_matches h k q || ((q == suc p) && is_visible_at h k p))) (q == suc p) ≡ true
    → p < q
next_above h k p q true t = ltb-true p q (and_parts _ _ t).0
next_above h k p q false t = let same = eqb-true q (suc p) t in omega (arith, same)

module _ (h : History) (snapshot_of : ℕ → ℕ) (checked : IsChecked h) (snap : IsSnapshotHistory h snapshot_of) where
  -- a snapshot sees the versions up to the newest one that it sees
  seen_within : (k : List ℕ) (limit p q a : ℕ) → IsNewestWithin h k limit p → installer h k q ≡ Some a
      → (q ≡ p) ⊎ (q < p) → stamp_in h a ≤ limit
  seen_within k limit zero q a n at (inl same) = absurd (none-some a (subst (λ x. installer h k x ≡ Some a) same at))
  seen_within k limit zero q a n at (inr less) = absurd (omega (arith, less))
  seen_within k limit (suc p) q a n at (inl same) =
      let who = ap (stamp_in h) (same_Some _ _ (sym at ∙ (ap (installer h k) same ∙ n.installs))) in
      let le = n.within in
      omega (arith, who, le)
  seen_within k limit (suc p) q a n at (inr less) =
      let rises = snap.by_stamp k q (suc p) a n.who at n.installs less in
      let le = n.within in
      omega (arith, rises, le)

  -- and none of the later ones
  seen_before : (k : List ℕ) (limit p q b : ℕ) → IsNewestWithin h k limit p → installer h k q ≡ Some b → p < q
      → limit < stamp_in h b
  seen_before k limit zero q b n at above = n q b at
  seen_before k limit (suc p) q b n at above =
      elim (cases_lt limit (stamp_in h b)) [
        | inl less ↦ less
        | inr more ↦ absurd (
            let le = n.greatest q b at more in
            let rises = snap.by_stamp k (suc p) q n.who b n.installs at above in
            omega (arith, le, rises))
      ]

  -- an edge leads from a transaction that committed before the other began, or is an anti-dependency between
  -- concurrent ones
  pub step : (kind : Kind) (k : List ℕ) (a b : ℕ) → a ≢ b → Depends h kind k a b
      → (stamp_in h a ≤ snapshot_of b) ⊎ ((kind ≡ Rw) × AreConcurrent h snapshot_of a b)
  step Ww k a b ne (q, at, next) =
      let first = snap.begins_first a (installer_committed h checked k q a at) in
      let rises = snap.by_stamp k q (suc q) a b at next (omega arith) in
      elim (cases_lt (snapshot_of b) (stamp_in h a)) [
        | inl less ↦ absurd (snap.first_wins k q (suc q) a b at next
            (record { differ = ne; ends_after = less; begins_before = omega (arith, first, rises) }))
        | inr more ↦ inl more
      ]
  step Wr k a b ne d = inl (
      let newest = snap.sees_snapshot d.event k d.place d.occurs d.selects in
      let source = source_within h d.event k d.place d.source d.from_source in
      let le = seen_within k (snapshot_of (txn_of d.event)) d.place d.source a newest d.installs source in
      let limit = ap snapshot_of d.reader in
      omega (arith, le, limit))
  step Rw k a b ne d =
      let newest = snap.sees_snapshot d.event k d.place d.occurs d.selects in
      let above = next_above h k d.place d.next (is_scan d.event) d.overwritten in
      let beyond = seen_before k (snapshot_of (txn_of d.event)) d.place d.next b newest d.installs above in
      let limit = ap snapshot_of d.reader in
      let later : snapshot_of a < stamp_in h b = omega (arith, beyond, limit) in
      elim (cases_lt (snapshot_of b) (stamp_in h a)) [
        | inl less ↦ inr (refl, record { differ = ne; ends_after = less; begins_before = later })
        | inr more ↦ inl more
      ]

  -- no edge ends in a transaction with a stamp below m
  abbrev ends_above : ℕ → List Edge → Type 0
  ends_above m es = (e : Edge) → Contains es e → m ≤ stamp_in h e.to

  -- then a path that begins at a stamp not below m doesn't end below m either, and none of its edges begins below m
  last_above : (m a b : ℕ) (es : List Edge) → IsPath a es b → m ≤ stamp_in h a → ends_above m es → m ≤ stamp_in h b
  last_above m a b [] path le above = subst (λ x. m ≤ stamp_in h x) path le
  last_above m a b (e ∷ es) path le above =
      last_above m e.to b es path.1 (above e (Contains-head e es)) (λ f c. above f (Contains-cons e es f c))

  starts_above : (m a b : ℕ) (es : List Edge) → IsPath a es b → m ≤ stamp_in h a → ends_above m es
      → (e : Edge) → Contains es e → m ≤ stamp_in h e.from
  starts_above m a b [] path le above e c = absurd (none_contained e c)
  starts_above m a b (x ∷ es) path le above e c =
      elim (Contains-cases x es e c) [
        | inl same ↦ subst (λ y. m ≤ stamp_in h y.from) same (subst (λ y. m ≤ stamp_in h y) (sym path.0) le)
        | inr later ↦ starts_above m x.to b es path.1 (above x (Contains-head x es))
            (λ y c'. above y (Contains-cons x es y c')) e later
      ]

  -- of two different committed transactions, the one that isn't later is earlier
  earlier : (t : Turn) → IsTurn h t → stamp_in h t.out.to ≤ stamp_in h t.out.from
      → stamp_in h t.out.to < stamp_in h t.out.from
  earlier t is le =
      elim (cases_lt (stamp_in h t.out.to) (stamp_in h t.out.from)) [
        | inl less ↦ less
        | inr more ↦
            let ends = committed_ends h checked t.out.kind t.out.key t.out.from t.out.to is.out_edge.1 in
            let same : stamp_in h t.out.from ≡ stamp_in h t.out.to = omega (arith, more, le) in
            absurd (is.out_edge.0 (same_stamp h _ _ ends.0 ends.1 same))
      ]

  -- a turn whose end commits no later than the other two is a dangerous structure
  danger : (t : Turn) → IsTurn h t → stamp_in h t.out.to ≤ stamp_in h t.out.from
      → stamp_in h t.out.to ≤ stamp_in h t.into.from → IsDangerous h snapshot_of t.into t.out
  danger t is middle first =
      let out = step t.out.kind t.out.key t.out.from t.out.to is.out_edge.0 is.out_edge.1 in
      let into = step t.into.kind t.into.key t.into.from t.into.to is.into_edge.0 is.into_edge.1 in
      let ends = committed_ends h checked t.out.kind t.out.key t.out.from t.out.to is.out_edge.1 in
      let own = snap.begins_first t.out.to ends.1 in
      let meet = ap snapshot_of is.meet in
      elim out [
        | inl early ↦ absurd (omega (arith, early, own, middle))
        | inr found ↦ elim into [
          | inl early ↦ absurd (let after = found.1.begins_before in omega (arith, early, after, meet, first))
          | inr also ↦ record {
            into_edge = is.into_edge;
            out_edge = is.out_edge;
            into_rw = also.0;
            out_rw = found.0;
            joined = is.meet;
            into_concurrent = also.1;
            out_concurrent = found.1;
            before_middle = earlier t is middle;
            not_after_first = first;
          }
        ]
      ]

  pub cycle_is_dangerous : (cycle : List Edge) → IsCycle h cycle → HasDanger h snapshot_of cycle
  cycle_is_dangerous [] c = absurd c
  cycle_is_dangerous (e ∷ es) c =
      let made = turns_made e es in
      let best = least (λ t. stamp_in h t.out.to) made.0 made.1 in
      let m : ℕ = stamp_in h best.0.out.to in
      let there : Contains (turns (e ∷ es)) best.0 = subst (λ ts. Contains ts best.0) (sym made.2) best.1 in
      let above = λ (f : Edge) (at : Contains (e ∷ es) f).
      let t = turn_out_of e es f at in
      let le = best.2 t.0 (subst (λ ts. Contains ts t.0) made.2 t.1) in
      subst (λ x. stamp_in h best.0.out.to ≤ stamp_in h x.to) t.2 le in
      let is = turn_is h e e.from (e ∷ es) c.0 c.1 c.0.0 best.0 there in
      let begin = last_above m e.to e.from es c.1.1 (above e (Contains-head e es))
      (λ f at. above f (Contains-cons e es f at)) in
      let first = starts_above m e.from e.from (e ∷ es) c.1 begin above in
      let into = turn_there e (e ∷ es) best.0 there in
      let middle : stamp_in h best.0.out.to ≤ stamp_in h best.0.out.from =
      subst (λ t. stamp_in h best.0.out.to ≤ stamp_in h t) is.meet (above best.0.into into) in
      record {
        turn = best.0;
        there = there;
        dangerous = danger best.0 is middle (first best.0.into into);
        first = first;
      }

-- so a history without dangerous structures has no cycle
pub safe_no_cycle : (h : History) (snapshot_of : ℕ → ℕ) → IsSafe h snapshot_of → (cycle : List Edge) → IsCycle h cycle → ⊥
safe_no_cycle h snapshot_of s cycle c =
    let d = cycle_is_dangerous h snapshot_of s.checked s.snapshots cycle c in
    s.no_danger d.turn.into d.turn.out d.dangerous

-- The first fault of the first kind is named, and a history without faults is checked.
use Rattle.std.proofs.Common.{◌≡◌, ◌≢◌, ℕ, Bool, true, not, [], ◌++◌, Some, None, refl, sym, ◌∙◌, ap, subst, arith, inl, inr}
use Rattle.std.specs.List.{Contains}
use Rattle.std.proofs.lemmas.Bool.{cases_Bool, cases_eq, and_parts, and_from, both_ways, or_cases, or_left, or_parts, or_from, not-true, not-false, eqb-true, eq-eqb, eqb-false, ne_eqb, not_from_true, not_from_false, false_from_ne_true}
use Rattle.lemmas.proofs.Lists.{nil_left, nil_right, both_nil}
use Rattle.lemmas.proofs.Members.{none_contained}
use Rattle.adya_values.specs.declared.event.Version.{Version}
use Rattle.adya_values.specs.declared.fault.Rule.{Rule}
use Rattle.adya_values.specs.Computing.Faults.{Malformed, AbortedRead, IntermediateRead, malformed, aborted_reads, is_last_of_another, intermediate_reads, first, check_faults, first_fault}
use Rattle.adya_values.specs.Meaning.Histories.{Entry, Event, History}
use Rattle.adya_values.specs.Computing.Shapes.{is_shape}
use Rattle.adya_values.specs.Meaning.Events.{txn_of, last_write, is_aborted}
use Rattle.adya_values.specs.Clauses.Rules.{IsWellFormed}
use Rattle.adya_values.specs.Meaning.Phenomena.{HasG1a, HasG1b}
use Rattle.adya_values.specs.Clauses.Acceptance.{IsChecked}
use Rattle.adya_values.proofs.Entries.{is_entry-same, is_entry-from}
use Rattle.adya_values.proofs.Faults.{first_append, first_contained, first_left, first_cases, nil_from_first}
use Rattle.adya_rules.specs.Clauses.FirstFaults.{BreaksRule, IsFirstMalformed, ReadsAborted, ReadsIntermediate, IsFirstAbortedRead, IsFirstIntermediateRead}
use Rattle.adya_rules.proofs.FaultOrder.{malformed_in_order, malformed_from_rank}
use Rattle.adya_rules.proofs.FirstMalformed.{broken_from, broken_there, first_malformed_from, malformed_first}
use Rattle.adya_rules.proofs.BadReads.{IsBadAt, first_bad, reads_pass, none_listed, listed_is_first, first_is_listed}
use Rattle.adya_rules.proofs.WellFormed.{well_formed_when_unbroken, unbroken_when_well_formed}

same_aborted_line : (l : ℕ) (v : Version) (m : ℕ) (w : Version) → AbortedRead l v ≡ AbortedRead m w → l ≡ m
same_aborted_line l v m w e = cc (e)

same_aborted_version : (l : ℕ) (v : Version) (m : ℕ) (w : Version) → AbortedRead l v ≡ AbortedRead m w → v ≡ w
same_aborted_version l v m w e = cc (e)

same_intermediate_line : (l : ℕ) (v : Version) (m : ℕ) (w : Version) → IntermediateRead l v ≡ IntermediateRead m w
    → l ≡ m
same_intermediate_line l v m w e = cc (e)

same_intermediate_version : (l : ℕ) (v : Version) (m : ℕ) (w : Version) → IntermediateRead l v ≡ IntermediateRead m w
    → v ≡ w
same_intermediate_version l v m w e = cc (e)

module _ (h : History) where
  -- ---- aborted reads

  abbrev is_not_aborted : Event → Entry → Bool
  is_not_aborted e o = not (is_aborted h o.version.txn)

  reads_aborted : (l p : ℕ) (e : Event) (o : Entry) → IsBadAt is_not_aborted h.events h.events 2 l p e o
      → ReadsAborted h l p o.version
  reads_aborted l p e o b =
      let parts = and_parts _ _ b.is_bad_read in (
        e,
        o,
        record { before = b.before; on_line = b.on_line; committed = parts.0; sees = b.sees },
        refl,
        not-false _ (not-true _ parts.1),
      )

  bad_aborted : (l p : ℕ) (v : Version) → ReadsAborted h l p v
      → (e : Event) × (o : Entry) × (o.version ≡ v) × IsBadAt is_not_aborted h.events h.events 2 l p e o
  bad_aborted l p v r = (
    r.0,
    r.1,
    r.3,
    record {
      before = r.2.before;
      on_line = r.2.on_line;
      sees = r.2.sees;
      is_bad_read = and_from _ _ r.2.committed
          (not_from_false _ (not_from_true _ (subst (λ w. is_aborted h w.txn ≡ true) (sym r.3) r.4)));
    },
  )

  aborted_named : (line : ℕ) (v : Version) → first (aborted_reads h) ≡ Some (AbortedRead line v)
      → IsFirstAbortedRead h line v
  aborted_named =
      listed_is_first h is_not_aborted AbortedRead (ReadsAborted h) reads_aborted bad_aborted same_aborted_line
      same_aborted_version

  names_aborted : (line : ℕ) (v : Version) → IsFirstAbortedRead h line v
      → first (aborted_reads h) ≡ Some (AbortedRead line v)
  names_aborted =
      first_is_listed h is_not_aborted AbortedRead (ReadsAborted h) reads_aborted bad_aborted same_aborted_line
      same_aborted_version

  no_g1a : aborted_reads h ≡ [] → HasG1a h → ⊥
  no_g1a none g =
      both_ways _ (not-true _ (reads_pass h is_not_aborted AbortedRead none g.0 g.1 g.2)) g.3

  no_aborted_read : (HasG1a h → ⊥) → aborted_reads h ≡ []
  no_aborted_read none =
      none_listed h is_not_aborted AbortedRead
      (λ e o r. not_from_false _ (false_from_ne_true _ (λ a. none (e, o, r, a))))

  -- ---- intermediate reads

  reads_intermediate : (l p : ℕ) (e : Event) (o : Entry)
      → IsBadAt (is_last_of_another h) h.events h.events 2 l p e o → ReadsIntermediate h l p o.version
  reads_intermediate l p e o b =
      let parts = and_parts _ _ b.is_bad_read in
      let tests = or_parts _ _ (not-true _ parts.1) in (
        e,
        o,
        record { before = b.before; on_line = b.on_line; committed = parts.0; sees = b.sees },
        refl,
        eqb-false _ _ tests.0,
        λ s. both_ways _ tests.1 (is_entry-from _ _ s),
      )

  bad_intermediate : (l p : ℕ) (v : Version) → ReadsIntermediate h l p v
      → (e : Event) × (o : Entry) × (o.version ≡ v) × IsBadAt (is_last_of_another h) h.events h.events 2 l p e o
  bad_intermediate l p v r =
      let o = r.1 in
      let apart : o.version.txn ≢ txn_of r.0 = subst (λ w. w.txn ≢ txn_of r.0) (sym r.3) r.4 in
      let other : last_write o.version.txn o.version.key h.events ≢ Some o =
      subst (λ w. last_write w.txn w.key h.events ≢ Some o) (sym r.3) r.5 in (
        r.0,
        o,
        r.3,
        record {
          before = r.2.before;
          on_line = r.2.on_line;
          sees = r.2.sees;
          is_bad_read = and_from _ _ r.2.committed
              (not_from_false _ (or_from _ _ (ne_eqb _ _ apart)
              (false_from_ne_true _ (λ t. other (is_entry-same _ _ t)))));
        },
      )

  intermediate_named : (line : ℕ) (v : Version) → first (intermediate_reads h) ≡ Some (IntermediateRead line v)
      → IsFirstIntermediateRead h line v
  intermediate_named =
      listed_is_first h (is_last_of_another h) IntermediateRead (ReadsIntermediate h) reads_intermediate
      bad_intermediate same_intermediate_line same_intermediate_version

  names_intermediate : (line : ℕ) (v : Version) → IsFirstIntermediateRead h line v
      → first (intermediate_reads h) ≡ Some (IntermediateRead line v)
  names_intermediate =
      first_is_listed h (is_last_of_another h) IntermediateRead (ReadsIntermediate h) reads_intermediate
      bad_intermediate same_intermediate_line same_intermediate_version

  no_g1b : intermediate_reads h ≡ [] → HasG1b h → ⊥
  no_g1b none g =
      elim (or_cases _ _ (reads_pass h (is_last_of_another h) IntermediateRead none g.0 g.1 g.2)) [
        | inl own ↦ g.3 (eqb-true _ _ own)
        | inr t ↦ g.4 (is_entry-same _ _ t)
      ]

  no_intermediate_read : (HasG1b h → ⊥) → intermediate_reads h ≡ []
  no_intermediate_read none =
      none_listed h (is_last_of_another h) IntermediateRead
      (λ e o r. elim (cases_eq o.version.txn (txn_of e)) [
        | inl own ↦ or_left _ _ (eq-eqb _ _ own)
        | inr ne ↦
            elim (cases_Bool (is_last_of_another h e o)) [
              | inl t ↦ t
              | inr f ↦ absurd (none (e, o, r, ne, (λ s. both_ways _ (or_parts _ _ f).1 (is_entry-from _ _ s))))
            ]
      ])

  -- ---- broken rules

  unbroken : malformed h ≡ [] → (line : ℕ) (rule : Rule) → BreaksRule h line rule → ⊥
  unbroken none line rule b =
      none_contained (Malformed line rule)
      (subst (λ xs. Contains xs (Malformed line rule)) none (broken_there h line rule b))

  well_formed : malformed h ≡ [] → IsWellFormed h
  well_formed none = well_formed_when_unbroken h (unbroken none)

  not_malformed : is_shape h.orders h.finals ≡ true → IsWellFormed h → malformed h ≡ []
  not_malformed shape w =
      let both = and_parts _ _ shape in
      elim (first_cases (malformed h)) [
        | inl none ↦ none
        | inr some ↦
            let c = first_contained (malformed h) some.0 some.1 in
            let low = (malformed_in_order h).from_low some.0 c in
            let m = malformed_from_rank some.0 (omega (arith, low)) in
            absurd (unbroken_when_well_formed h w (and_parts _ _ both.0).1 both.1 m.0 m.1
            (broken_from h m.0 m.1 (subst (Contains (malformed h)) m.2 c)))
      ]

  -- ---- the first of all

  named_malformed : (line : ℕ) (rule : Rule) → first_fault h ≡ Some (Malformed line rule)
      → first (malformed h) ≡ Some (Malformed line rule)
  named_malformed line rule e =
      let x = Malformed line rule in
      elim (first_append (malformed h) (aborted_reads h ++ intermediate_reads h) x e) [
        | inl f ↦ f
        | inr g ↦
            (elim (first_append (aborted_reads h) (intermediate_reads h) x g.1) [
              | inl a ↦ let r = first_bad is_not_aborted h.events AbortedRead 2 h.events x a in absurd (cc (r.3))
              | inr b ↦
                  let r = first_bad (is_last_of_another h) h.events IntermediateRead 2 h.events x b.1 in
                  absurd (cc (r.3))
            ])
      ]

  named_aborted : (line : ℕ) (v : Version) → first_fault h ≡ Some (AbortedRead line v)
      → (malformed h ≡ []) × (first (aborted_reads h) ≡ Some (AbortedRead line v))
  named_aborted line v e =
      let x = AbortedRead line v in
      elim (first_append (malformed h) (aborted_reads h ++ intermediate_reads h) x e) [
        | inl f ↦
            let low = (malformed_in_order h).from_low x (first_contained (malformed h) x f) in
            absurd (omega (arith, low))
        | inr g ↦
            (elim (first_append (aborted_reads h) (intermediate_reads h) x g.1) [
              | inl a ↦ (g.0, a)
              | inr b ↦
                  let r = first_bad (is_last_of_another h) h.events IntermediateRead 2 h.events x b.1 in
                  absurd (cc (r.3))
            ])
      ]

  named_intermediate : (line : ℕ) (v : Version) → first_fault h ≡ Some (IntermediateRead line v)
      → (malformed h ≡ []) × (aborted_reads h ≡ []) × (first (intermediate_reads h) ≡ Some (IntermediateRead line v))
  named_intermediate line v e =
      let x = IntermediateRead line v in
      elim (first_append (malformed h) (aborted_reads h ++ intermediate_reads h) x e) [
        | inl f ↦
            let low = (malformed_in_order h).from_low x (first_contained (malformed h) x f) in
            absurd (omega (arith, low))
        | inr g ↦
            (elim (first_append (aborted_reads h) (intermediate_reads h) x g.1) [
              | inl a ↦ let r = first_bad is_not_aborted h.events AbortedRead 2 h.events x a in absurd (cc (r.3))
              | inr b ↦ (g.0, b.0, b.1)
            ])
      ]

  pub malformed_is_first : (line : ℕ) (rule : Rule) → first_fault h ≡ Some (Malformed line rule)
      → IsFirstMalformed h line rule
  malformed_is_first line rule e = first_malformed_from h line rule (named_malformed line rule e)

  pub first_malformed_is_named : (line : ℕ) (rule : Rule) → IsFirstMalformed h line rule
      → first_fault h ≡ Some (Malformed line rule)
  first_malformed_is_named line rule f =
      first_left (malformed h) (aborted_reads h ++ intermediate_reads h) (Malformed line rule)
      (malformed_first h line rule f)

  pub aborted_is_first : (line : ℕ) (v : Version) → first_fault h ≡ Some (AbortedRead line v)
      → IsWellFormed h × IsFirstAbortedRead h line v
  aborted_is_first line v e = let n = named_aborted line v e in (well_formed n.0, aborted_named line v n.1)

  pub first_aborted_is_named : (line : ℕ) (v : Version) → is_shape h.orders h.finals ≡ true → IsWellFormed h
      → IsFirstAbortedRead h line v → first_fault h ≡ Some (AbortedRead line v)
  first_aborted_is_named line v shape w f =
      ap (λ xs. first (xs ++ (aborted_reads h ++ intermediate_reads h))) (not_malformed shape w) ∙
      first_left (aborted_reads h) (intermediate_reads h) (AbortedRead line v) (names_aborted line v f)

  pub intermediate_is_first : (line : ℕ) (v : Version) → first_fault h ≡ Some (IntermediateRead line v)
      → IsWellFormed h × (HasG1a h → ⊥) × IsFirstIntermediateRead h line v
  intermediate_is_first line v e =
      let n = named_intermediate line v e in (well_formed n.0, no_g1a n.1, intermediate_named line v n.2)

  pub first_intermediate_is_named : (line : ℕ) (v : Version) → is_shape h.orders h.finals ≡ true → IsWellFormed h
      → (HasG1a h → ⊥) → IsFirstIntermediateRead h line v → first_fault h ≡ Some (IntermediateRead line v)
  first_intermediate_is_named line v shape w clean f =
      ap (λ xs. first (xs ++ (aborted_reads h ++ intermediate_reads h))) (not_malformed shape w) ∙
      (ap (λ xs. first (xs ++ intermediate_reads h)) (no_aborted_read clean) ∙ names_intermediate line v f)

  -- ---- no fault at all

  pub checked_without_fault : first_fault h ≡ None → IsChecked h
  checked_without_fault e =
      let none = nil_from_first (check_faults h) e in
      let reads = nil_right (malformed h) (aborted_reads h ++ intermediate_reads h) none in
      record {
        well_formed = well_formed (nil_left (malformed h) (aborted_reads h ++ intermediate_reads h) none);
        no_aborted_read = no_g1a (nil_left (aborted_reads h) (intermediate_reads h) reads);
        no_intermediate_read = no_g1b (nil_right (aborted_reads h) (intermediate_reads h) reads);
      }

  pub no_fault_if_checked : is_shape h.orders h.finals ≡ true → IsChecked h → first_fault h ≡ None
  no_fault_if_checked shape c =
      ap first (both_nil (malformed h) (aborted_reads h ++ intermediate_reads h) (not_malformed shape c.well_formed)
      (both_nil (aborted_reads h) (intermediate_reads h) (no_aborted_read c.no_aborted_read)
      (no_intermediate_read c.no_intermediate_read)))

-- The first of the reads that fail a test is on the first line with one, and the first of its event's list.
use Rattle.std.proofs.Common.{◌≡◌, ℕ, zero, suc, ◌≤◌, Bool, true, false, cond, not, ◌&&◌, List, [], ◌∷◌, map, slice_get, Some, refl, sym, ◌∙◌, ap, subst, arith, inl, inr}
use Rattle.std.specs.List.{filter, Contains}
use Rattle.std.proofs.lemmas.Bool.{cases_Bool, both_ways, and_parts, and_from, not-true, not_from_false}
use Rattle.std.proofs.lemmas.Option.{none-some, same_Some}
use Rattle.lemmas.proofs.Lists.{nil_left, nil_right, nil_from_map}
use Rattle.lemmas.proofs.Members.{none_contained, Contains-slice_get, slice_get-contained}
use Rattle.lemmas.proofs.Filters.{Contains-filter}
use Rattle.adya_values.specs.declared.event.Version.{Version}
use Rattle.adya_values.specs.Computing.Faults.{Fault, bad_reads, first}
use Rattle.adya_values.specs.Meaning.Histories.{Entry, Event, History}
use Rattle.adya_values.specs.Meaning.Events.{txn_of, observed, is_committed}
use Rattle.adya_values.specs.Meaning.Phenomena.{ReadsCommitted}
use Rattle.adya_values.proofs.Faults.{first_append, first_map, first_cases}
use Rattle.adya_rules.specs.Clauses.FirstFaults.{IsOnLine, IsNoLater, IsFirstRead}
use Rattle.adya_rules.proofs.Lines.{on_line-head, on_line-cons, on_line-empty, on_line-cases, on_line-contained, contained-on_line, on_line-same}

-- ---- the first element that passes a test, by its place

record IsFirstPass {X : Type 0} (p : X → Bool) (xs : List X) (x : X) : Type 0 where
  place : ℕ
  there : slice_get xs place ≡ Some x
  passes : p x ≡ true
  least : (j : ℕ) (y : X) → slice_get xs j ≡ Some y → p y ≡ true → place ≤ j

first_pass_after : {X : Type 0} (p : X → Bool) (x : X) (xs : List X) (y : X) (rest : IsFirstPass p xs y) → p x ≡ false
    → (j : ℕ) (z : X) → slice_get (x ∷ xs) j ≡ Some z → p z ≡ true → suc rest.place ≤ j
first_pass_after p x xs y rest f zero z e s = absurd (both_ways (p x) f (ap p (same_Some x z e) ∙ s))
first_pass_after p x xs y rest f (suc j) z e s = let l = rest.least j z e s in omega (arith, l)

first_filter : {X : Type 0} (p : X → Bool) (xs : List X) (x : X) → first (filter p xs) ≡ Some x → IsFirstPass p xs x
first_filter p [] x e = absurd (none-some x e)
first_filter p (y ∷ xs) x e =
    elim (cases_Bool (p y)) [
      | inl t ↦
          let here : IsFirstPass p (y ∷ xs) y =
          record { place = 0; there = refl; passes = t; least = λ j z f s. omega arith } in
          subst (IsFirstPass p (y ∷ xs))
          (same_Some y x (subst (λ b. first (cond b (y ∷ filter p xs) (filter p xs)) ≡ Some x) t e)) here
      | inr f ↦
          let rest = first_filter p xs x
          (subst (λ b. first (cond b (y ∷ filter p xs) (filter p xs)) ≡ Some x) f e) in
          record {
            place = suc rest.place;
            there = rest.there;
            passes = rest.passes;
            least = first_pass_after p y xs x rest f;
          }
    ]

-- ---- the reads of a list of events

module _ (good : Event → Entry → Bool) (events : List Event) where
  -- the entry fails the test, and the event is of a committed transaction
  abbrev is_bad : Event → Entry → Bool
  is_bad e o = is_committed events (txn_of e) && not (good e o)

  -- the event on the line has such an entry at the place
  pub record IsBadAt (es : List Event) (start line place : ℕ) (e : Event) (o : Entry) : Type 0 where
    pub before : List Event
    pub on_line : IsOnLine es start line before e
    pub sees : slice_get (observed e) place ≡ Some o
    pub is_bad_read : is_bad e o ≡ true

  -- and no such entry comes before
  pub record IsFirstBad (es : List Event) (start line : ℕ) (e : Event) (o : Entry) : Type 0 where
    pub place : ℕ
    pub bad : IsBadAt es start line place e o
    pub least : (l p : ℕ) (x : Event) (w : Entry) → IsBadAt es start l p x w → IsNoLater line place l p

  no_later_bad : (es : List Event) (start : ℕ) (e x : Event) (o : Entry) (l p : ℕ) (before : List Event)
      → (pass : IsFirstPass (is_bad e) (observed e) o) → IsOnLine (e ∷ es) start l before x → (w : Entry)
      → slice_get (observed x) p ≡ Some w → is_bad x w ≡ true → IsNoLater start pass.place l p
  no_later_bad es start e x o l p before pass s w sees bad =
      elim (on_line-cases e es start l before x s) [
        | inl at ↦
            inr (
              sym at.2,
              pass.least p w (subst (λ y. slice_get (observed y) p ≡ Some w) (sym at.1) sees)
                  (subst (λ y. is_bad y w ≡ true) (sym at.1) bad),
            )
        | inr at ↦ let c = at.2.counts in inl (omega (arith, c))
      ]

  none_bad_here : (e : Event) (p : ℕ) (w : Entry) → filter (is_bad e) (observed e) ≡ []
      → slice_get (observed e) p ≡ Some w → is_bad e w ≡ true → ⊥
  none_bad_here e p w none sees bad =
      none_contained w (subst (λ xs. Contains xs w) none
      (Contains-filter (is_bad e) (observed e) w (Contains-slice_get (observed e) p w sees) bad))

  -- if the event has no bad read, those of the list are those of the rest
  bad_later : (e : Event) (es : List Event) (start l p : ℕ) (x : Event) (w : Entry)
      → filter (is_bad e) (observed e) ≡ [] → IsBadAt (e ∷ es) start l p x w → IsBadAt es (suc start) l p x w
  bad_later e es start l p x w none b =
      elim (on_line-cases e es start l b.before x b.on_line) [
        | inl at ↦
            absurd (none_bad_here e p w none (subst (λ y. slice_get (observed y) p ≡ Some w) (sym at.1) b.sees)
            (subst (λ y. is_bad y w ≡ true) (sym at.1) b.is_bad_read))
        | inr at ↦ record { before = at.0; on_line = at.2; sees = b.sees; is_bad_read = b.is_bad_read }
      ]

  first_bad_here : (e : Event) (es : List Event) (start : ℕ) (o : Entry)
      → IsFirstPass (is_bad e) (observed e) o → IsFirstBad (e ∷ es) start start e o
  first_bad_here e es start o pass = record {
    place = pass.place;
    bad = record { before = []; on_line = on_line-head e es start; sees = pass.there; is_bad_read = pass.passes };
    least = λ l p x w b. no_later_bad es start e x o l p b.before pass b.on_line w b.sees b.is_bad_read;
  }

  first_bad_later : (e : Event) (es : List Event) (start line : ℕ) (x : Event) (o : Entry)
      → filter (is_bad e) (observed e) ≡ [] → IsFirstBad es (suc start) line x o → IsFirstBad (e ∷ es) start line x o
  first_bad_later e es start line x o none f = record {
    place = f.place;
    bad = record {
      before = e ∷ f.bad.before;
      on_line = on_line-cons e es start line f.bad.before x f.bad.on_line;
      sees = f.bad.sees;
      is_bad_read = f.bad.is_bad_read;
    };
    least = λ l p y w b. f.least l p y w (bad_later e es start l p y w none b);
  }

  module _ (fault : ℕ → Version → Fault) where
    pub first_bad : (start : ℕ) (es : List Event) (c : Fault)
        → first (bad_reads good fault events start es) ≡ Some c
        → (line : ℕ) × (e : Event) × (o : Entry) × (fault line o.version ≡ c) × IsFirstBad es start line e o
    first_bad start [] c f = absurd (none-some c f)
    first_bad start (e ∷ es) c f =
        let at_line : Entry → Fault = λ o. fault start o.version in
        elim (first_append (map at_line (filter (is_bad e) (observed e))) _ c f) [
          | inl here ↦
              let m = first_map at_line (filter (is_bad e) (observed e)) c here in
              (start, e, m.0, m.2, first_bad_here e es start m.0 (first_filter (is_bad e) (observed e) m.0 m.1))
          | inr later ↦
              let r = first_bad (suc start) es c later.1 in (
                r.0,
                r.1,
                r.2,
                r.3,
                first_bad_later e es start r.0 r.1 r.2
                    (nil_from_map at_line (filter (is_bad e) (observed e)) later.0) r.4,
              )
        ]

    none_bad : (start : ℕ) (es : List Event) → bad_reads good fault events start es ≡ []
        → (l p : ℕ) (x : Event) (w : Entry) → IsBadAt es start l p x w → ⊥
    none_bad start [] none l p x w b = on_line-empty start l b.before x b.on_line
    none_bad start (e ∷ es) none l p x w b =
        let at_line : Entry → Fault = λ o. fault start o.version in
        let here = map at_line (filter (is_bad e) (observed e)) in
        let later = bad_reads good fault events (suc start) es in
        none_bad (suc start) es (nil_right here later none) l p x w
        (bad_later e es start l p x w (nil_from_map at_line (filter (is_bad e) (observed e)) (nil_left here later none)) b)

-- ---- the first read of a history

-- of two places that are each no later than the other, both are the same
no_later_same : (a b c d : ℕ) → IsNoLater a b c d → IsNoLater c d a b → (a ≡ c) × (b ≡ d)
no_later_same a b c d (inl l) (inl m) = absurd (omega (arith, l, m))
no_later_same a b c d (inl l) (inr m) = let e = m.0 in absurd (omega (arith, l, e))
no_later_same a b c d (inr l) (inl m) = let e = l.0 in absurd (omega (arith, m, e))
no_later_same a b c d (inr l) (inr m) = let x = l.1 in let y = m.1 in (l.0, omega (arith, x, y))

module _ (h : History) (good : Event → Entry → Bool) (fault : ℕ → Version → Fault) where
  abbrev all_bad : List Fault
  all_bad = bad_reads good fault h.events 2 h.events

  abbrev IsBad : ℕ → ℕ → Event → Entry → Type 0
  IsBad l p e o = IsBadAt good h.events h.events 2 l p e o

  -- no bad read is listed exactly if each entry that a committed transaction reads passes
  pub reads_pass : all_bad ≡ [] → (e : Event) (o : Entry) → ReadsCommitted h e o → good e o ≡ true
  reads_pass none e o r =
      elim (cases_Bool (good e o)) [
        | inl t ↦ t
        | inr f ↦
            let s = contained-on_line h.events 2 e r.occurs in
            let p = slice_get-contained (observed e) o r.sees in
            absurd (none_bad good h.events fault 2 h.events none s.0 p.0 e o (record {
              before = s.1;
              on_line = s.2;
              sees = p.1;
              is_bad_read = and_from _ _ r.committed (not_from_false _ f);
            }))
      ]

  pub none_listed : ((e : Event) (o : Entry) → ReadsCommitted h e o → good e o ≡ true) → all_bad ≡ []
  none_listed pass =
      elim (first_cases all_bad) [
        | inl none ↦ none
        | inr some ↦
            let r = first_bad good h.events fault 2 h.events some.0 some.1 in
            let b = r.4.bad in
            let parts = and_parts _ _ b.is_bad_read in
            absurd (both_ways _ (not-true _ parts.1) (pass r.1 r.2 (record {
              occurs = on_line-contained h.events 2 r.0 b.before r.1 b.on_line;
              committed = parts.0;
              sees = Contains-slice_get (observed r.1) r.4.place r.2 b.sees;
            })))
      ]

  -- the reads in other words: an entry of the version is read at the place of the line, and fails
  module _ (Reads : ℕ → ℕ → Version → Type 0)
      (reads_from : (l p : ℕ) (e : Event) (o : Entry) → IsBad l p e o → Reads l p o.version)
      (bad_from : (l p : ℕ) (v : Version) → Reads l p v → (e : Event) × (o : Entry) × (o.version ≡ v) × IsBad l p e o)
      (same_line : (l : ℕ) (v : Version) (m : ℕ) (w : Version) → fault l v ≡ fault m w → l ≡ m)
      (same_version : (l : ℕ) (v : Version) (m : ℕ) (w : Version) → fault l v ≡ fault m w → v ≡ w) where
    pub listed_is_first : (line : ℕ) (v : Version) → first all_bad ≡ Some (fault line v) → IsFirstRead Reads line v
    listed_is_first line v f =
        let r = first_bad good h.events fault 2 h.events (fault line v) f in
        subst (λ l. IsFirstRead Reads l v) (same_line r.0 r.2.version line v r.3)
        (subst (IsFirstRead Reads r.0) (same_version r.0 r.2.version line v r.3)
        (record {
          place = r.4.place;
          reads = reads_from r.0 r.4.place r.1 r.2 r.4.bad;
          least = λ l p w a. let b = bad_from l p w a in r.4.least l p b.0 b.1 b.3;
        }))

    -- there is one entry at a place
    one_read : (line place : ℕ) (v w : Version) → Reads line place v → Reads line place w → v ≡ w
    one_read line place v w a b =
        let x = bad_from line place v a in
        let y = bad_from line place w b in
        let same = on_line-same h.events 2 line x.3.before y.3.before x.0 y.0 x.3.on_line y.3.on_line in
        let entries = same_Some x.1 y.1
        (sym x.3.sees ∙ (ap (λ e. slice_get (observed e) place) same ∙ y.3.sees)) in
        sym x.2 ∙ (ap (λ o. o.version) entries ∙ y.2)

    pub first_is_listed : (line : ℕ) (v : Version) → IsFirstRead Reads line v → first all_bad ≡ Some (fault line v)
    first_is_listed line v f =
        elim (first_cases all_bad) [
          | inl none ↦
              let b = bad_from line f.place v f.reads in
              absurd (none_bad good h.events fault 2 h.events none line f.place b.0 b.1 b.3)
          | inr some ↦
              let r = first_bad good h.events fault 2 h.events some.0 some.1 in
              let w = r.2.version in
              let g = listed_is_first r.0 w (some.1 ∙ ap Some (sym r.3)) in
              let same = no_later_same r.0 g.place line f.place (g.least line f.place v f.reads)
              (f.least r.0 g.place w g.reads) in
              let versions = one_read line f.place w v
              (subst (λ l. Reads l f.place w) same.0 (subst (λ p. Reads r.0 p w) same.1 g.reads)) f.reads in
              some.1 ∙ ap Some (sym r.3 ∙ (ap (λ l. fault l w) same.0 ∙ ap (fault line) versions))
        ]

-- An order that goes forward along the few links of a checker respects all precedences.
use Rattle.std.proofs.Common.{◌≡◌, ◌≢◌, ◌⊎◌, ℕ, ◌<◌, ◌≤◌, Bool, true, false, cond, List, [], ◌∷◌, ◌++◌, append_assoc, length, nat_lt, Contains, refl, sym, ◌∙◌, ap, subst, arith, inl, inr}
use Rattle.std.specs.List.{flat_map, filter, slice_index_or}
use Rattle.std.proofs.lemmas.Bool.{cases_eq, cases_lt, lt-ltb}
use Rattle.std.proofs.lemmas.List.{append-nil, get_or_past}
use Rattle.std.proofs.lemmas.List.Concat.{flat_map-append}
use Rattle.std.proofs.lemmas.List.Elements.{Contains-append_left, Contains-append_right, Contains-append_cases}
use Rattle.lemmas.proofs.Members.{none_contained, Contains-head, Contains-cases, flat_map-source, Contains-flat_map}
use Rattle.lemmas.proofs.Counts.{count, count-append, count_contained, Contains-counted}
use Rattle.append_values.specs.declared.transaction.Outcome.TheVariants.{Committed, Aborted}
use Rattle.append_values.specs.Meaning.Histories.{Operation, Transaction, History, nothing, effects_of, outcome}
use Rattle.append_values.specs.Meaning.Runs.{Explains}
use Rattle.append_values.specs.Meaning.Reads.{appended, own, HasRead, AppendersDiffer, IsPrefixOf}
use Rattle.append_values.specs.Meaning.Reasons.{Precedes}
use Rattle.append_laws.specs.Laws.Explanations.{IsWhole}
use Rattle.append_laws.specs.Laws.Links.{IsInLine, IsLine, GoesForward, AllGoForward, without_helpers}
use Rattle.append_laws.proofs.Prefixes.{both_begin, prefix_more, prefix_contains}
use Rattle.append_laws.proofs.Places.{at_contained, place_same, place_other}
use Rattle.append_laws.proofs.Fronts.{IsListed, own_splits, own_contains}
use Rattle.append_laws.proofs.Rising.{Rises}
use Rattle.append_laws.proofs.Exactness.{exactly}
use Rattle.digraph.specs.Clauses.Graphs.{place, IsBefore}

-- a list rises if each element is below the next one
climbs : (f : ℕ → ℕ) (line : List ℕ) → ((front back : List ℕ) (u v : ℕ) → line ≡ front ++ u ∷ v ∷ back → f u < f v) → Rises f line
climbs f [] n = tt
climbs f (x ∷ []) n = (λ y c. absurd (none_contained y c), tt)
climbs f (x ∷ z ∷ zs) n =
    let rest = climbs f (z ∷ zs) (λ front back u v e. n (x ∷ front) back u v (ap (λ ys. x ∷ ys) e)) in
    let first = n [] zs x z refl in (
      λ y c. elim (Contains-cases z zs y c) [
        | inl e ↦ subst (λ w. f x < f w) e first
        | inr d ↦ let more = rest.0 y d in omega (arith, first, more)
      ],
      rest,
    )

rises_behind : (f : ℕ → ℕ) (front back : List ℕ) (u : ℕ) → Rises f (front ++ u ∷ back) → (v : ℕ) → Contains back v → f u < f v
rises_behind f [] back u r v c = r.0 v c
rises_behind f (x ∷ front) back u r v c = rises_behind f front back u r.1 v c

rises_between : (f : ℕ → ℕ) (front back : List ℕ) → Rises f (front ++ back) → (u v : ℕ) → Contains front u → Contains back v → f u < f v
rises_between f [] back r u v c d = absurd (none_contained u c)
rises_between f (x ∷ front) back r u v c d =
    elim (Contains-cases x front u c) [
      | inl e ↦ subst (λ w. f w < f v) e (r.0 v (Contains-append_right front back v d))
      | inr s ↦ rises_between f front back r.1 u v s d
    ]

-- a list that isn't empty has a last element
last_of : (xs : List ℕ) (u : ℕ) → Contains xs u → (front : List ℕ) × (w : ℕ) × (xs ≡ front ++ w ∷ [])
last_of [] u c = absurd (none_contained u c)
last_of (x ∷ []) u c = ([], x, refl)
last_of (x ∷ y ∷ ys) u c = let z = last_of (y ∷ ys) y (Contains-head y ys) in (x ∷ z.0, z.1, ap (λ zs. x ∷ zs) z.2)

-- what is forward stays so when nodes are left out
place_filtered : (p : ℕ → Bool) (ns : List ℕ) (u v : ℕ) → p u ≡ true → IsBefore ns u v → IsBefore (filter p ns) u v
place_filtered p [] u v t b = absurd (omega (arith, b))
place_filtered p (x ∷ ns) u v t b =
    let fs = filter p ns in
    let apart : x ≢ v = λ s. let none = place_same x ns v s in omega (arith, none, b) in
    elim (cases_eq x u) [
      | inl e ↦
          subst (λ c. IsBefore (cond c (x ∷ fs) fs) u v) (sym (ap p e ∙ t))
          (let here = place_same x fs u e in let there = place_other x fs v apart in omega (arith, here, there))
      | inr ne ↦
          let first = place_other x ns u ne in
          let second = place_other x ns v apart in
          let rest = place_filtered p ns u v t (omega (arith, first, second, b)) in
          elim (p x) as (λ c. IsBefore (cond c (x ∷ fs) fs) u v) [
            | true ↦ let one = place_other x fs u ne in let two = place_other x fs v apart in omega (arith, one, two, rest)
            | false ↦ rest
          ]
    ]

module _ (h : History) (k : ℕ) (line : List ℕ) (end : ℕ) (ns : List ℕ) (differ : AppendersDiffer h)
    (l : IsLine h k line) (g : GoesForward h k line l end ns) where
  line_rises : Rises (place ns) line
  line_rises = climbs (place ns) line g.neighbours

  in_line_before_end : (u : ℕ) → Contains line u → IsBefore ns u end
  in_line_before_end u c =
      let z = last_of line u c in
      let ends = g.last z.0 z.1 z.2 in
      elim (Contains-append_cases z.0 (z.1 ∷ []) u (subst (λ us. Contains us u) z.2 c)) [
        | inl s ↦
            let less = rises_between (place ns) z.0 (z.1 ∷ []) (subst (Rises (place ns)) z.2 line_rises) u z.1 s (Contains-head z.1 []) in
            omega (arith, less, ends)
        | inr s ↦
            (elim (Contains-cases z.1 [] u s) [
              | inl e ↦ subst (λ w. IsBefore ns w end) e ends
              | inr d ↦ absurd (none_contained u d)
            ])
      ]

  module _ (t : ℕ) (xs : List ℕ) (before : List Operation) (r : HasRead h t k xs before) where
    abbrev a : IsInLine h line t k xs before
    a = l.reads t xs before r

    writers_in_line : (u : ℕ) → Contains a.writers u → Contains line u
    writers_in_line u c = subst (λ us. Contains us u) (sym a.cuts) (Contains-append_left a.writers a.rest u c)

    rest_in_line : (u : ℕ) → Contains a.rest u → Contains line u
    rest_in_line u c = subst (λ us. Contains us u) (sym a.cuts) (Contains-append_right a.writers a.rest u c)

    writer_before : (u : ℕ) → Contains a.writers u → IsBefore ns u t
    writer_before u c =
        let z = last_of a.writers u c in
        let shown = g.shown t xs before r z.0 z.1 z.2 in
        let cut : line ≡ z.0 ++ (z.1 ∷ a.rest) = a.cuts ∙ (ap (λ us. us ++ a.rest) z.2 ∙ append_assoc z.0 (z.1 ∷ []) a.rest) in
        elim (Contains-append_cases z.0 (z.1 ∷ []) u (subst (λ us. Contains us u) z.2 c)) [
          | inl s ↦
              let less = rises_between (place ns) z.0 (z.1 ∷ a.rest) (subst (Rises (place ns)) cut line_rises) u z.1 s (Contains-head z.1 a.rest) in
              omega (arith, less, shown)
          | inr s ↦
              (elim (Contains-cases z.1 [] u s) [
                | inl e ↦ subst (λ w. IsBefore ns w t) e shown
                | inr d ↦ absurd (none_contained u d)
              ])
        ]

    before_end : (rest : List ℕ) → a.rest ≡ rest → IsBefore ns t end
    before_end [] e = g.all_shown t xs before r e
    before_end (v ∷ more) e =
        let later = in_line_before_end v (rest_in_line v (subst (λ us. Contains us v) (sym e) (Contains-head v more))) in
        elim (cases_eq t v) [
          | inl s ↦ subst (λ w. IsBefore ns w end) (sym s) later
          | inr ne ↦ let first = g.not_shown t xs before r v more e ne in omega (arith, first, later)
        ]

    before_rest : (rest : List ℕ) → a.rest ≡ rest → (v : ℕ) → Contains rest v → t ≢ v → IsBefore ns t v
    before_rest [] e v c ne = absurd (none_contained v c)
    before_rest (w ∷ more) e v c ne =
        let cut : line ≡ a.writers ++ (w ∷ more) = a.cuts ∙ ap (λ us. a.writers ++ us) e in
        elim (Contains-cases w more v c) [
          | inl s ↦ g.not_shown t xs before r v more (e ∙ ap (λ z. z ∷ more) s) ne
          | inr d ↦
              let less = rises_behind (place ns) a.writers more w (subst (Rises (place ns)) cut line_rises) v d in
              (elim (cases_eq t w) [
                | inl s ↦ subst (λ z. IsBefore ns z v) (sym s) less
                | inr other ↦ let first = g.not_shown t xs before r w more e other in omega (arith, first, less)
              ])
        ]

    -- what is read was appended by a writer that the read shows, or by the reader
    shown_or_own : (x u : ℕ) → Contains xs x → Contains (own h k u) x → Contains a.writers u ⊎ (u ≡ t)
    shown_or_own x u c d =
        elim (Contains-append_cases (flat_map (own h k) a.writers) (appended k before) x (subst (λ ys. Contains ys x) a.splits c)) [
          | inl s ↦ let w = flat_map-source (own h k) a.writers x s in inl (subst (Contains a.writers) (differ k x w.0 u w.2 d) w.1)
          | inr s ↦ inr (differ k x u t d (own_contains h t k xs before r x s))
        ]

    -- the line's elements begin with those that are read
    begins_with : (os : List ℕ) → appended k before ≡ os → IsPrefixOf xs (flat_map (own h k) line)
    begins_with [] e = (
      flat_map (own h k) a.rest,
      ap (flat_map (own h k)) a.cuts ∙
          (flat_map-append (own h k) a.writers a.rest ∙
          ap (λ ys. ys ++ flat_map (own h k) a.rest)
          (sym (a.splits ∙ (ap (λ ys. flat_map (own h k) a.writers ++ ys) e ∙ append-nil (flat_map (own h k) a.writers))))),
    )
    begins_with (y ∷ os) e =
        let mine = own_contains h t k xs before r y (subst (λ ys. Contains ys y) (sym e) (Contains-head y os)) in
        let n = a.next y mine in
        let early = flat_map (own h k) a.writers in
        let late = flat_map (own h k) n.0 in (
          appended k r.rest ++ late,
          ap (flat_map (own h k)) a.cuts ∙
              (flat_map-append (own h k) a.writers a.rest ∙
              (ap (λ us. early ++ flat_map (own h k) us) n.1 ∙
              (ap (λ ys. early ++ (ys ++ late)) (own_splits h t k xs before r) ∙
              (ap (λ ys. early ++ ys) (append_assoc (appended k before) (appended k r.rest) late) ∙
              (sym (append_assoc early (appended k before) (appended k r.rest ++ late)) ∙
              ap (λ ys. ys ++ (appended k r.rest ++ late)) (sym a.splits)))))),
        )

    read_write : (v x : ℕ) → Contains (own h k v) x → (Contains xs x → ⊥) → t ≢ v → IsBefore ns t v
    read_write v x c unread ne =
        elim (cases_eq (count line v) 0) [
          | inl none ↦
              let first = before_end a.rest refl in
              let later = g.unseen v x c (λ d. let some = count_contained line v d in omega (arith, some, none)) in
              omega (arith, first, later)
          | inr some ↦
              let there = Contains-counted line v (omega (arith, some)) in
              (elim (Contains-append_cases a.writers a.rest v (subst (λ us. Contains us v) a.cuts there)) [
                | inl s ↦
                    absurd (unread (subst (λ ys. Contains ys x) (sym a.splits)
                    (Contains-append_left (flat_map (own h k) a.writers) (appended k before) x (Contains-flat_map (own h k) a.writers v x s c))))
                | inr s ↦ before_rest a.rest refl v s ne
              ])
        ]

    write_write : (u v x y : ℕ) (part : List ℕ) → IsPrefixOf part xs → Contains (own h k u) x → Contains part x → Contains (own h k v) y
        → (Contains part y → ⊥) → u ≢ v → IsBefore ns u v
    write_write u v x y part begins c seen d unseen ne =
        let whole = flat_map (own h k) line in
        let there : Contains line u =
        elim (shown_or_own x u (prefix_contains part xs x begins seen) c) [
          | inl s ↦ writers_in_line u s
          | inr s ↦
              let n = a.next x (subst (λ w. Contains (own h k w) x) s c) in
              rest_in_line u (subst (λ us. Contains us u) (sym n.1) (subst (λ w. Contains (w ∷ n.0) u) s (Contains-head u n.0)))
        ] in
        let p = at_contained line u there in
        let early = flat_map (own h k) p.front in
        let started : IsPrefixOf part whole = prefix_more part xs whole begins (begins_with (appended k before) refl) in
        elim (cases_eq (count line v) 0) [
          | inl none ↦
              let first = in_line_before_end u there in
              let later = g.unseen v y d (λ m. let some = count_contained line v m in omega (arith, some, none)) in
              omega (arith, first, later)
          | inr some ↦
              (elim (Contains-append_cases p.front (u ∷ p.back) v
              (subst (λ us. Contains us v) p.splits (Contains-counted line v (omega (arith, some))))) [
                | inr behind ↦
                    (elim (Contains-cases u p.back v behind) [
                      | inl s ↦ absurd (ne s)
                      | inr m ↦ rises_behind (place ns) p.front p.back u (subst (Rises (place ns)) p.splits line_rises) v m
                    ])
                | inl sooner ↦
                    (elim (both_begin part early whole started
                    (flat_map (own h k) (u ∷ p.back), ap (flat_map (own h k)) p.splits ∙ flat_map-append (own h k) p.front (u ∷ p.back))) [
                      | inl short ↦
                          let z = flat_map-source (own h k) p.front x (prefix_contains part early x short seen) in
                          let again : Contains p.front u = subst (Contains p.front) (differ k x z.0 u z.2 c) z.1 in
                          let counted = count_contained p.front u again in
                          let first = p.first in
                          absurd (omega (arith, counted, first))
                      | inr long ↦ absurd (unseen (prefix_contains early part y long (Contains-flat_map (own h k) p.front v y sooner d)))
                    ])
              ])
        ]

    write_read : (u x : ℕ) → Contains (own h k u) x → Contains xs x → u ≢ t → IsBefore ns u t
    write_read u x c seen ne =
        elim (shown_or_own x u seen c) [
          | inl s ↦ writer_before u s
          | inr s ↦ absurd (ne s)
        ]

    whole_read : IsWhole h t k xs before
    whole_read = record {
      writers = a.writers;
      once = λ u.
          let one = l.once u in
          let cut = ap (λ us. count us u) a.cuts in
          let parts = count-append a.writers a.rest u in
          omega (arith, one, cut, parts);
      others = λ u c. (λ e. a.others (subst (Contains a.writers) e c), l.append u (writers_in_line u c));
      splits = a.splits;
    }

pub links_suffice : (h : History) (line : ℕ → List ℕ) (end : ℕ → ℕ) (ns : List ℕ) (u v : ℕ) → AppendersDiffer h
    → AllGoForward h line end ns → Precedes h u v → IsBefore ns u v
links_suffice h line end ns u v differ all (inl d) =
    let g = all d.key (v, d.elements, d.before, d.read) in
    write_read h d.key (line d.key) (end d.key) ns differ g.0 g.1 v d.elements d.before d.read u d.element d.is_of d.seen d.differ
links_suffice h line end ns u v differ all (inr (inl d)) =
    let g = all d.key (d.reader, d.elements, d.before, d.read) in
    write_write h d.key (line d.key) (end d.key) ns differ g.0 g.1 d.reader d.elements d.before d.read u v d.element d.later d.part d.begins
    d.is_of d.seen d.later_is_of d.unseen d.differ
links_suffice h line end ns u v differ all (inr (inr d)) =
    let g = all d.key (u, d.elements, d.before, d.read) in
    read_write h d.key (line d.key) (end d.key) ns differ g.0 g.1 u d.elements d.before d.read v d.element d.is_of d.unseen d.differ

-- there is nothing at a place past the history
past : (h : History) (t : ℕ) → length h ≤ t → slice_index_or h t nothing ≡ nothing
past h t l = get_or_past h t nothing l

appender_known : (h : History) (k u x : ℕ) → Contains (own h k u) x → u < length h
appender_known h k u x c =
    elim (cases_lt u (length h)) [
      | inl l ↦ l
      | inr l ↦ absurd (none_contained x (subst (λ (z : Transaction). Contains (appended k (effects_of z)) x) (past h u l) c))
    ]

committed_known : (h : History) (u : ℕ) → outcome h u ≡ Committed → u < length h
committed_known h u c =
    elim (cases_lt u (length h)) [
      | inl l ↦ l
      | inr l ↦ let none : outcome h u ≡ Aborted = ap (λ (z : Transaction). z.outcome) (past h u l) in absurd (cc (c, none))
    ]

known : (h : History) (u v : ℕ) → Precedes h u v → u < length h
known h u v (inl d) = appender_known h d.key u d.element d.is_of
known h u v (inr (inl d)) = appender_known h d.key u d.element d.is_of
known h u v (inr (inr d)) = committed_known h u d.read.committed

pub links_explain : (h : History) (line : ℕ → List ℕ) (end : ℕ → ℕ) (ns : List ℕ) → AppendersDiffer h
    → AllGoForward h line end ns → IsListed h (without_helpers h ns) → Explains (without_helpers h ns) h
links_explain h line end ns differ all listed =
    (exactly h (without_helpers h ns) differ).1 (
      listed,
      λ u v p.
          place_filtered (λ w. nat_lt w (length h)) ns u v (lt-ltb u (length h) (known h u v p)) (links_suffice h line end ns u v differ all p),
      λ t k xs before r.
          let g = all k (t, xs, before, r) in
          whole_read h k (line k) (end k) ns differ g.0 g.1 t xs before r,
    )

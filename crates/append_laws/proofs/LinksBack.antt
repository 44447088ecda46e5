-- Each link of a checker is a precedence.
use Rattle.std.proofs.Common.{◌≡◌, ◌≢◌, ◌⊎◌, ℕ, List, [], ◌∷◌, ◌++◌, append_assoc, Contains, refl, sym, ◌∙◌, ap, subst, arith, inl, inr}
use Rattle.std.specs.List.{flat_map}
use Rattle.std.proofs.lemmas.List.{append-nil}
use Rattle.std.proofs.lemmas.List.Concat.{flat_map-append}
use Rattle.std.proofs.lemmas.List.Elements.{Contains-append_left, Contains-append_right, Contains-append_cases}
use Rattle.lemmas.proofs.Lists.{same_head, same_tail}
use Rattle.lemmas.proofs.Members.{none_contained, Contains-head, Contains-cons, flat_map-source, Contains-flat_map}
use Rattle.lemmas.proofs.Counts.{count, count-append, count-cons, count_same, count_contained}
use Rattle.append_values.specs.Meaning.Histories.{Operation, History}
use Rattle.append_values.specs.Meaning.Reads.{appended, own, HasRead, AppendersDiffer}
use Rattle.append_values.specs.Meaning.Reasons.{Precedes}
use Rattle.append_laws.specs.Laws.Links.{IsInLine, IsLine, IsLeft, ArePrecedences}
use Rattle.append_laws.proofs.Fronts.{own_contains}

-- the last elements of equal lists are equal, and so is what comes before
same_last : (xs ys : List ℕ) (x y : ℕ) → xs ++ x ∷ [] ≡ ys ++ y ∷ [] → (xs ≡ ys) × (x ≡ y)
same_last [] [] x y e = (refl, same_head x y [] [] e)
same_last [] (z ∷ ys) x y e =
    let none : [] ≡ ys ++ y ∷ [] = same_tail x z [] (ys ++ y ∷ []) e in
    absurd (none_contained y (subst (λ zs. Contains zs y) (sym none) (Contains-append_right ys (y ∷ []) y (Contains-head y []))))
same_last (z ∷ xs) [] x y e =
    let none : xs ++ x ∷ [] ≡ [] = same_tail z y (xs ++ x ∷ []) [] e in
    absurd (none_contained x (subst (λ zs. Contains zs x) none (Contains-append_right xs (x ∷ []) x (Contains-head x []))))
same_last (z ∷ xs) (w ∷ ys) x y e =
    let rest = same_last xs ys x y (same_tail z w (xs ++ x ∷ []) (ys ++ y ∷ []) e) in
    (ap (λ us. z ∷ us) rest.0 ∙ ap (λ u. u ∷ ys) (same_head z w (xs ++ x ∷ []) (ys ++ y ∷ []) e), rest.1)

cons_not_nil : (x : ℕ) (xs : List ℕ) → x ∷ xs ≡ [] → ⊥
cons_not_nil x xs e = none_contained x (subst (λ zs. Contains zs x) e (Contains-head x xs))

ends : (v : ℕ) (back : List ℕ) → (front : List ℕ) × (w : ℕ) × (v ∷ back ≡ front ++ w ∷ [])
ends v [] = ([], v, refl)
ends v (y ∷ ys) = let z = ends y ys in (v ∷ z.0, z.1, ap (λ zs. v ∷ zs) z.2)

module _ (h : History) (k : ℕ) (line : List ℕ) (l : IsLine h k line) (differ : AppendersDiffer h) where
  module _ (t : ℕ) (xs : List ℕ) (before : List Operation) (r : HasRead h t k xs before) where
    abbrev a : IsInLine h line t k xs before
    a = l.reads t xs before r

    source : (x u : ℕ) → Contains xs x → Contains (own h k u) x → Contains a.writers u ⊎ (u ≡ t)
    source x u c d =
        elim (Contains-append_cases (flat_map (own h k) a.writers) (appended k before) x (subst (λ ys. Contains ys x) a.splits c)) [
          | inl s ↦ let w = flat_map-source (own h k) a.writers x s in inl (subst (Contains a.writers) (differ k x w.0 u w.2 d) w.1)
          | inr s ↦ inr (differ k x u t d (own_contains h t k xs before r x s))
        ]

    in_line : (u : ℕ) → Contains a.writers u → Contains line u
    in_line u c = subst (λ us. Contains us u) (sym a.cuts) (Contains-append_left a.writers a.rest u c)

    read_of : (u x : ℕ) → Contains a.writers u → Contains (own h k u) x → Contains xs x
    read_of u x c d =
        subst (λ ys. Contains ys x) (sym a.splits)
        (Contains-append_left (flat_map (own h k) a.writers) (appended k before) x (Contains-flat_map (own h k) a.writers u x c d))

    by_read : (u : ℕ) → Contains a.writers u → Precedes h u t
    by_read u c =
        let x = l.append u (in_line u c) in
        inl (record {
          key = k;
          elements = xs;
          before = before;
          read = r;
          element = x.0;
          is_of = x.1;
          seen = read_of u x.0 c x.1;
          differ = λ e. a.others (subst (Contains a.writers) e c);
        })

    by_lack : (v x : ℕ) → Contains (own h k v) x → (Contains a.writers v → ⊥) → t ≢ v → Precedes h t v
    by_lack v x d n ne =
        inr (inr (record {
          key = k;
          elements = xs;
          before = before;
          read = r;
          element = x;
          is_of = d;
          unseen = λ c. elim (source x v c d) [ inl s ↦ n s | inr e ↦ ne (sym e) ];
          differ = ne;
        }))

    shown : (front : List ℕ) (u : ℕ) → a.writers ≡ front ++ u ∷ [] → Precedes h u t
    shown front u e =
        by_read u (subst (λ us. Contains us u) (sym e) (Contains-append_right front (u ∷ []) u (Contains-head u [])))

    not_shown : (v : ℕ) (more : List ℕ) → a.rest ≡ v ∷ more → t ≢ v → Precedes h t v
    not_shown v more e ne =
        let cut : line ≡ a.writers ++ v ∷ more = a.cuts ∙ ap (λ us. a.writers ++ us) e in
        let x = l.append v (subst (λ us. Contains us v) (sym cut) (Contains-append_right a.writers (v ∷ more) v (Contains-head v more))) in
        by_lack v x.0 x.1 (λ c.
        let some = count_contained a.writers v c in
        let parts = count-append a.writers (v ∷ more) v in
        let again = count_same v more v refl in
        let same = ap (λ us. count us v) cut in
        let one = l.once v in
        omega (arith, some, parts, again, same, one)) ne

    all_shown_unseen : (v x : ℕ) → a.rest ≡ [] → Contains (own h k v) x → (Contains line v → ⊥) → Precedes h t v
    all_shown_unseen v x e d n =
        by_lack v x d (λ c. n (in_line v c)) (λ s.
        let z = a.next x (subst (λ w. Contains (own h k w) x) (sym s) d) in cons_not_nil t z.0 (sym z.1 ∙ e))

    -- two writers side by side, both shown
    side_by_side : (front back : List ℕ) (u v : ℕ) → a.writers ≡ front ++ u ∷ v ∷ back → Precedes h u v
    side_by_side front back u v e =
        let begun = flat_map (own h k) front ++ own h k u in
        let late = flat_map (own h k) (v ∷ back) in
        let u_there : Contains a.writers u =
        subst (λ us. Contains us u) (sym e) (Contains-append_right front (u ∷ v ∷ back) u (Contains-head u (v ∷ back))) in
        let v_there : Contains a.writers v =
        subst (λ us. Contains us v) (sym e)
        (Contains-append_right front (u ∷ v ∷ back) v (Contains-cons u (v ∷ back) v (Contains-head v back))) in
        let x = l.append u (in_line u u_there) in
        let y = l.append v (in_line v v_there) in
        let one = l.once v in
        let same = ap (λ us. count us v) (a.cuts ∙ ap (λ us. us ++ a.rest) e) in
        let parts = count-append (front ++ u ∷ v ∷ back) a.rest v in
        let more = count-append front (u ∷ v ∷ back) v in
        let cons = count-cons u (v ∷ back) v in
        let here = count_same v back v refl in
        let apart : u ≢ v = λ s. let twice = count_same u (v ∷ back) v s in omega (arith, one, same, parts, more, here, twice) in
        inr (inl (record {
          reader = t;
          key = k;
          elements = xs;
          before = before;
          read = r;
          part = begun;
          begins = (
            late ++ appended k before,
            a.splits ∙
                (ap (λ us. flat_map (own h k) us ++ appended k before) e ∙
                (ap (λ ys. ys ++ appended k before) (flat_map-append (own h k) front (u ∷ v ∷ back)) ∙
                (ap (λ ys. ys ++ appended k before) (sym (append_assoc (flat_map (own h k) front) (own h k u) late)) ∙
                append_assoc begun late (appended k before)))),
          );
          element = x.0;
          is_of = x.1;
          seen = Contains-append_right (flat_map (own h k) front) (own h k u) x.0 x.1;
          later = y.0;
          later_is_of = y.1;
          unseen = λ c. elim (Contains-append_cases (flat_map (own h k) front) (own h k u) y.0 c) [
            | inl s ↦
                let w = flat_map-source (own h k) front y.0 s in
                let again = count_contained front v (subst (Contains front) (differ k y.0 w.0 v w.2 y.1) w.1) in
                omega (arith, one, same, parts, more, cons, here, again)
            | inr s ↦ apart (differ k y.0 u v s y.1)
          ];
          differ = apart;
        }))

    -- t is the last one in the line: what stands before it is shown
    split_at_last : (front fr : List ℕ) (u v w : ℕ) (back : List ℕ) → a.rest ≡ t ∷ [] → line ≡ front ++ u ∷ v ∷ back
        → v ∷ back ≡ fr ++ w ∷ [] → Precedes h u v
    split_at_last front [] u v w back e cut tail =
        let whole : a.writers ++ t ∷ [] ≡ (front ++ u ∷ []) ++ w ∷ [] =
        ap (λ us. a.writers ++ us) (sym e) ∙ (sym a.cuts ∙ (cut ∙ (ap (λ us. front ++ u ∷ us) tail ∙ sym (append_assoc front (u ∷ []) (w ∷ []))))) in
        let z = same_last a.writers (front ++ u ∷ []) t w whole in
        let v_is : t ≡ v = z.1 ∙ sym (same_head v w back [] tail) in
        subst (Precedes h u) v_is (shown front u z.0)
    split_at_last front (f ∷ fr) u v w back e cut tail =
        let whole : a.writers ++ t ∷ [] ≡ (front ++ u ∷ f ∷ fr) ++ w ∷ [] =
        ap (λ us. a.writers ++ us) (sym e) ∙ (sym a.cuts ∙ (cut ∙ (ap (λ us. front ++ u ∷ us) tail ∙ sym (append_assoc front (u ∷ f ∷ fr) (w ∷ []))))) in
        let z = same_last a.writers (front ++ u ∷ f ∷ fr) t w whole in
        subst (Precedes h u) (sym (same_head v f back (fr ++ w ∷ []) tail)) (side_by_side front fr u f z.0)

    neighbours : (a.rest ≡ []) ⊎ (a.rest ≡ t ∷ []) → (front back : List ℕ) (u v : ℕ) → line ≡ front ++ u ∷ v ∷ back → Precedes h u v
    neighbours (inl e) front back u v cut =
        side_by_side front back u v (sym (append-nil a.writers) ∙ (ap (λ us. a.writers ++ us) (sym e) ∙ (sym a.cuts ∙ cut)))
    neighbours (inr e) front back u v cut = let z = ends v back in split_at_last front z.0 u v z.1 back e cut z.2

    last_unseen : (a.rest ≡ []) ⊎ (a.rest ≡ t ∷ []) → (front : List ℕ) (u v x : ℕ) → line ≡ front ++ u ∷ []
        → Contains (own h k v) x → (Contains line v → ⊥) → Precedes h u v
    last_unseen (inl e) front u v x cut d n =
        let all : a.writers ≡ front ++ u ∷ [] =
        sym (append-nil a.writers) ∙ (ap (λ us. a.writers ++ us) (sym e) ∙ (sym a.cuts ∙ cut)) in
        let u_there : Contains a.writers u = subst (λ us. Contains us u) (sym all) (Contains-append_right front (u ∷ []) u (Contains-head u [])) in
        let y = l.append u (in_line u u_there) in
        inr (inl (record {
          reader = t;
          key = k;
          elements = xs;
          before = before;
          read = r;
          part = xs;
          begins = ([], sym (append-nil xs));
          element = y.0;
          is_of = y.1;
          seen = read_of u y.0 u_there y.1;
          later = x;
          later_is_of = d;
          unseen = λ c. elim (source x v c d) [
            | inl s ↦ n (in_line v s)
            | inr s ↦ let z = a.next x (subst (λ w. Contains (own h k w) x) s d) in cons_not_nil t z.0 (sym z.1 ∙ e)
          ];
          differ = λ s. n (subst (Contains line) s (in_line u u_there));
        }))
    last_unseen (inr e) front u v x cut d n =
        let whole : a.writers ++ t ∷ [] ≡ front ++ u ∷ [] = ap (λ us. a.writers ++ us) (sym e) ∙ (sym a.cuts ∙ cut) in
        let z = same_last a.writers front t u whole in
        let t_there : Contains line t =
        subst (λ us. Contains us t) (sym a.cuts)
        (Contains-append_right a.writers a.rest t (subst (λ us. Contains us t) (sym e) (Contains-head t []))) in
        subst (λ w. Precedes h w v) z.1
        (by_lack v x d (λ c. n (in_line v c)) (λ s. n (subst (Contains line) s t_there)))

pub links_are_precedences : (h : History) (k : ℕ) (line : List ℕ) (l : IsLine h k line) → AppendersDiffer h → IsLeft h k line l
    → ArePrecedences h k line l
links_are_precedences h k line l differ w =
    record {
      neighbours = λ front back u v e. neighbours h k line l differ w.0 w.1 w.2 w.3 w.4 front back u v e;
      shown = λ t xs before r front u e. shown h k line l differ t xs before r front u e;
      not_shown = λ t xs before r v more e ne. not_shown h k line l differ t xs before r v more e ne;
      last_unseen = λ front u v x e d n. last_unseen h k line l differ w.0 w.1 w.2 w.3 w.4 front u v x e d n;
      all_shown_unseen = λ t xs before r v x e d n. all_shown_unseen h k line l differ t xs before r v x e d n;
    }

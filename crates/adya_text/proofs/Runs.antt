-- Runs of lines, which the texts of their lines determine.
use Rattle.std.proofs.Common.{◌≡◌, ℕ, true, false, List, [], ◌∷◌, ◌++◌, map, refl, sym, ap, ◌∙◌, append_assoc, append-nil}
use Rattle.std.proofs.lemmas.List.{map_push, map-append}
use Rattle.std.specs.List.{AllByRecursion}
use Rattle.lemmas.proofs.Indices.{all_push}
use Rattle.adya_line.specs.Laws.{IsOneText}
use Rattle.adya_line.specs.Clauses.OnlyLines.{SpellsOnly}
use Rattle.adya_text.specs.Computing.Runs.{Machine, IsRun, end_of, HasRun, IsRefused, IsAllowed}

run_push : {S H L : Type 0} (m : Machine S H L) (s : S) (xs : List L) (x : L) → IsRun m s xs
    → m.allows (end_of m.after s xs) x ≡ true → IsRun m s (xs ++ x ∷ [])
run_push m s [] x run ok = (ok, tt)
run_push m s (y ∷ ys) x run ok = (run.0, run_push m (m.after s y) ys x run.1 ok)

end_push : {S L : Type 0} (after : S → L → S) (s : S) (xs : List L) (x : L)
    → end_of after s (xs ++ x ∷ []) ≡ after (end_of after s xs) x
end_push after s [] x = refl
end_push after s (y ∷ ys) x = end_push after (after s y) ys x

-- what follows a front was allowed there
run_next : {S H L : Type 0} (m : Machine S H L) (s : S) (xs : List L) (x : L) (ys : List L)
    → IsRun m s (xs ++ x ∷ ys) → m.allows (end_of m.after s xs) x ≡ true
run_next m s [] x ys run = run.0
run_next m s (z ∷ zs) x ys run = run_next m (m.after s z) zs x ys run.1

pub all_append : {L : Type 0} (P : L → Type 0) (xs ys : List L) → AllByRecursion P xs → AllByRecursion P ys
    → AllByRecursion P (xs ++ ys)
all_append P [] ys left right = right
all_append P (x ∷ xs) ys left right = (left.0, all_append P xs ys left.1 right)

pub all_map : {K L : Type 0} (P : L → Type 0) (Q : K → Type 0) (f : K → L) → ((k : K) → Q k → P (f k)) → (ks : List K)
    → AllByRecursion Q ks → AllByRecursion P (map f ks)
all_map P Q f each [] all = tt
all_map P Q f each (k ∷ ks) all = (each k all.0, all_map P Q f each ks all.1)

-- the line whose text follows the texts of a front
pub record Split {L : Type 0} (text : L → List ℕ) (good : L → Type 0) (all front : List L) (l : List ℕ)
    (more : List (List ℕ)) : Type 0 where
  pub line : L
  pub rest : List L
  pub whole : all ≡ front ++ line ∷ rest
  pub same : text line ≡ l
  pub is : good line
  pub rest_same : map text rest ≡ more

pub split : {L : Type 0} (text : L → List ℕ) (good : L → Type 0) → IsOneText good text
    → (all front : List L) (l : List ℕ) (more : List (List ℕ))
    → AllByRecursion good all → AllByRecursion good front → map text all ≡ map text front ++ l ∷ more
    → Split text good all front l more
split text good tells [] [] l more goods fronts e = absurd cc
split text good tells (a ∷ more_a) [] l more goods fronts e =
    record { line = a; rest = more_a; whole = refl; same = cc; is = goods.0; rest_same = cc }
split text good tells [] (x ∷ xs) l more goods fronts e = absurd cc
split text good tells (a ∷ more_a) (x ∷ xs) l more goods fronts e =
    let here : text a ≡ text x = cc in
    let later : map text more_a ≡ map text xs ++ l ∷ more = cc in
    let s = split text good tells more_a xs l more goods.1 fronts.1 later in
    record {
      line = s.line;
      rest = s.rest;
      whole = cc (tells a x goods.0 fronts.0 here, s.whole);
      same = s.same;
      is =
          s.is;
      rest_same = s.rest_same;
    }

-- the lines of one list of texts are one list
pub texts_tell : {L : Type 0} (text : L → List ℕ) (good : L → Type 0) → IsOneText good text → (xs ys : List L)
    → AllByRecursion good xs → AllByRecursion good ys → map text xs ≡ map text ys → xs ≡ ys
texts_tell text good tells [] [] ga gb e = refl
texts_tell text good tells [] (b ∷ more_b) ga gb e = absurd cc
texts_tell text good tells (a ∷ more_a) [] ga gb e = absurd cc
texts_tell text good tells (a ∷ more_a) (b ∷ more_b) ga gb e =
    let here : text a ≡ text b = cc in
    let later : map text more_a ≡ map text more_b = cc in
    cc (tells a b ga.0 gb.0 here, texts_tell text good tells more_a more_b ga.1 gb.1 later)

-- the text of a line that is not allowed after the run doesn't go on with it
pub refused : {S H L : Type 0} (m : Machine S H L) → IsOneText m.good m.text → (s end : S) (held more_held : H)
    (lines : List (List ℕ)) (l : List ℕ) (more : List (List ℕ))
    → HasRun m s held lines → HasRun m end more_held (lines ++ l ∷ more) → IsRefused m s l → ⊥
refused m tells s end held more_held lines l more front whole none =
    let same : map m.text whole.items ≡ map m.text front.items ++ l ∷ more = cc (whole.same, front.same) in
    let s = split m.text m.good tells whole.items front.items l more whole.goods front.goods same in
    let allowed = run_next m m.start front.items s.line s.rest (rw s.whole at whole.runs) in
    none s.line (record { good = s.is; same = sym s.same }) (rw front.ends at allowed)

pub refused_by : {S H L : Type 0} (m : Machine S H L) (s : S) (text : List ℕ) (x : L)
    → SpellsOnly m.good m.text x text → m.allows s x ≡ false → IsRefused m s text
refused_by m s text x here never y there ok =
    let allowed : m.allows s x ≡ true = ap (m.allows s) (sym (here.only y there)) ∙ ok in
    absurd cc

-- a run goes on with a line that is allowed after it
pub taken : {S H L : Type 0} {m : Machine S H L} {s new : S} {held new_held : H} {lines : List (List ℕ)} {l : List ℕ}
    {x : L} → HasRun m s held lines → IsAllowed m s l x → new ≡ m.after s x → new_held ≡ m.with_line held x
    → HasRun m new new_held (lines ++ l ∷ [])
taken {m = m} {x = x} front allowed stage holds = record {
  items = front.items ++ x ∷ [];
  goods = all_push m.good front.items x front.goods allowed.0.good;
  runs = run_push m m.start front.items x front.runs (rw front.ends allowed.1);
  ends = end_push m.after m.start front.items x ∙ ap (λ s. m.after s x) front.ends ∙ sym stage;
  holds = end_push m.with_line m.nothing front.items x ∙ ap (λ h. m.with_line h x) front.holds ∙ sym holds;
  same = cc (front.same, allowed.0.same, map_push m.text front.items x);
}

run_append : {S H L : Type 0} (m : Machine S H L) (s : S) (xs ys : List L) → IsRun m s xs
    → IsRun m (end_of m.after s xs) ys → IsRun m s (xs ++ ys)
run_append m s [] ys front back = back
run_append m s (x ∷ xs) ys front back = (front.0, run_append m (m.after s x) xs ys front.1 back)

end_append : {S L : Type 0} (after : S → L → S) (s : S) (xs ys : List L)
    → end_of after s (xs ++ ys) ≡ end_of after (end_of after s xs) ys
end_append after s [] ys = refl
end_append after s (x ∷ xs) ys = end_append after (after s x) xs ys

-- a run goes on with a run from its end
pub run_join : {S H L : Type 0} (m : Machine S H L) (s end : S) (held : H) (lines : List (List ℕ)) (ys : List L)
    → HasRun m s held lines → AllByRecursion m.good ys → IsRun m s ys → end_of m.after s ys ≡ end
    → HasRun m end (end_of m.with_line held ys) (lines ++ map m.text ys)
run_join m s end held lines ys front goods runs ends = record {
  items = front.items ++ ys;
  goods = all_append m.good front.items ys front.goods goods;
  runs = run_append m m.start front.items ys front.runs (rw front.ends runs);
  ends = end_append m.after m.start front.items ys ∙ (rw front.ends ends);
  holds = end_append m.with_line m.nothing front.items ys ∙ (rw front.holds refl);
  same = ap (λ (r : List (List ℕ)). r ++ map m.text ys) front.same ∙ sym (map-append m.text front.items ys);
}

-- one list of lines leads to one stage, and holds one value
pub one_end : {S H L : Type 0} (m : Machine S H L) → IsOneText m.good m.text → (a b : S) (g h : H)
    (lines : List (List ℕ)) → HasRun m a g lines → HasRun m b h lines → (a ≡ b) × (g ≡ h)
one_end m tells a b g h lines left right =
    let same : left.items ≡ right.items =
    texts_tell m.text m.good tells left.items right.items left.goods right.goods (sym left.same ∙ right.same) in (
      sym left.ends ∙ ap (end_of m.after m.start) same ∙ right.ends,
      sym left.holds ∙ ap (end_of m.with_line m.nothing) same ∙ right.holds,
    )

-- ---- lines of one kind, one for each value of a list

-- whatever comes before lines that end at a stage from any other, they end there
pub front_ends : {S L : Type 0} (after : S → L → S) (end : S) (ys : List L) → ((s : S) → end_of after s ys ≡ end)
    → (xs : List L) (s : S) → end_of after s (xs ++ ys) ≡ end
front_ends after end ys each [] s = each s
front_ends after end ys each (x ∷ xs) s = front_ends after end ys each xs (after s x)

pub map_texts : {X L : Type 0} (text : L → List ℕ) (of : X → L) (text_of : X → List ℕ)
    → ((x : X) → text (of x) ≡ text_of x) → (xs : List X) (ys : List L) (more : List (List ℕ)) → map text ys ≡ more
    → map text (map of xs ++ ys) ≡ map text_of xs ++ more
map_texts text of text_of each [] ys more rest = rest
map_texts text of text_of each (x ∷ xs) ys more rest = cc (each x, map_texts text of text_of each xs ys more rest)

-- where each line puts its value at the end of a list, the lines put theirs there in order
pub all_put : {H L X : Type 0} (hold : H → L → H) (of : X → L) (put : List X → H)
    → ((xs : List X) (x : X) → hold (put xs) (of x) ≡ put (xs ++ x ∷ [])) → (xs ys : List X) (more : List L)
    → end_of hold (put xs) (map of ys ++ more) ≡ end_of hold (put (xs ++ ys)) more
all_put hold of put each xs [] more = ap (λ l. end_of hold (put l) more) (sym (append-nil xs))
all_put hold of put each xs (y ∷ ys) more =
    ap (λ h. end_of hold h (map of ys ++ more)) (each xs y) ∙ all_put hold of put each (xs ++ y ∷ []) ys more
    ∙ ap (λ l. end_of hold (put l) more) (append_assoc xs (y ∷ []) ys)

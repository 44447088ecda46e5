-- What is known of lines that a machine has run over, if its complete runs are the lines of the values of a grammar.
use Rattle.std.proofs.Common.{◌≡◌, ℕ, suc, ◌+◌, true, List, [], ◌∷◌, ◌++◌, length, map, Option, sym, ap, subst, ◌∙◌, arith, append_assoc}
use Rattle.std.specs.List.{AllByRecursion}
use Rattle.std.proofs.lemmas.List.{length-map}
use Rattle.adya_line.specs.Laws.{IsOneText}
use Rattle.adya_text.specs.Clauses.Faults.{Begins}
use Rattle.adya_text.specs.Computing.Runs.{Machine, IsRun, end_of, HasRun, IsRefused}
use Rattle.adya_text.specs.Machinery.LongLines.{IsLonger, StartsNoLine}
use Rattle.adya_text.proofs.Runs.{run_join, refused, one_end}
use Rattle.adya_text.proofs.LongLines.{longer_some, longer_with}

-- the lines of a value
abbrev pub AreLines : {H : Type 0} → (H → Type 0) → (H → List (List ℕ)) → List (List ℕ) → Type 0
AreLines {H} Is lines_of lines = (h : H) × Is h × (lines ≡ lines_of h)

-- lines that lead from the stage to the end
pub record GoesOn {S H L : Type 0} (m : Machine S H L) (s : S) : Type 0 where
  pub more : List L
  pub goods : AllByRecursion m.good more
  pub runs : IsRun m s more
  pub ends : end_of m.after s more ≡ m.done

-- each complete run holds a value, of which it has the lines
pub record IsMachineOf {S H L : Type 0} (m : Machine S H L) (Is : H → Type 0) (lines_of : H → List (List ℕ)) : Type 0
  where
    pub run_of : (h : H) → Is h → HasRun m m.done h (lines_of h)
    pub are_lines : (h : H) (lines : List (List ℕ)) → HasRun m m.done h lines → AreLines Is lines_of lines
    pub goes_on : (s : S) → GoesOn m s
    pub stays : (x : L) → m.allows m.done x ≡ true → ⊥

module _ {S H L : Type 0} {m : Machine S H L} {Is : H → Type 0} {lines_of : H → List (List ℕ)}
    (of : IsMachineOf m Is lines_of)
  where
    pub run_begins : {s : S} {held : H} {lines : List (List ℕ)} → HasRun m s held lines
        → Begins (AreLines Is lines_of) lines
    run_begins {s = s} {held = held} {lines = lines} run =
        let on = of.goes_on s in
        record {
          more = map m.text on.more;
          within = of.are_lines _ _ (run_join m s m.done held lines on.more run on.goods on.runs on.ends);
        }

    module _ (tell : IsOneText m.good m.text) where
      pub run_stops : {s : S} {held : H} {lines : List (List ℕ)} {l : List ℕ} → HasRun m s held lines
          → IsRefused m s l → Begins (AreLines Is lines_of) (lines ++ l ∷ []) → ⊥
      run_stops {s = s} {held = held} {lines = lines} {l = l} run none b =
          let (h, is, whole) = b.within in
          let longer : lines ++ l ∷ b.more ≡ lines_of h = sym (append_assoc lines (l ∷ []) b.more) ∙ whole in
          refused m tell s m.done held h lines l b.more run (rw longer (of.run_of h is)) none

      -- a line that begins with more bytes than the most of one that may come
      pub run_long : {s : S} {held : H} {lines : List (List ℕ)} (longest : Option ℕ) → HasRun m s held lines
          → ((x : L) → m.good x → m.allows s x ≡ true → IsLonger longest (m.text x) → ⊥)
          → (start : List ℕ) → IsLonger longest start → StartsNoLine (AreLines Is lines_of) lines start
      run_long longest run within start longer = record {
        some = longer_some longest start longer;
        stops = λ more. run_stops run
            (λ x is ok. within x is.good ok (subst (IsLonger longest) is.same (longer_with longest start more longer)));
      }

      -- the lines of a value lead to the end, and hold that value
      pub run_value : {s : S} {held : H} {lines : List (List ℕ)} → HasRun m s held lines → AreLines Is lines_of lines
          → (s ≡ m.done) × Is held × (lines ≡ lines_of held)
      run_value {s = s} {held = held} {lines = lines} run (h, is, same) =
          let one = one_end m tell s m.done held h lines run (rw same (of.run_of h is)) in
          (one.0, subst Is (sym one.1) is, same ∙ ap lines_of (sym one.1))

      -- lines that lead to the end are those of the value that they hold
      pub run_done : {s : S} {held : H} {lines : List (List ℕ)} → HasRun m s held lines → s ≡ m.done
          → Is held × (lines ≡ lines_of held)
      run_done {held = held} {lines = lines} run done =
          let whole = subst (λ s. HasRun m s held lines) done run in
          let value = run_value whole (of.are_lines held lines whole) in
          (value.1, value.2)

-- if each line that may come adds one to a number, the number of lines is added to it
pub run_counts : {S H L : Type 0} (m : Machine S H L) (number : S → H → ℕ)
    → ((s : S) (h : H) (x : L) → m.allows s x ≡ true → number (m.after s x) (m.with_line h x) ≡ suc (number s h))
    → (s : S) (held : H) (lines : List (List ℕ)) → HasRun m s held lines
    → number s held ≡ number m.start m.nothing + length lines
run_counts {S = S} {H = H} {L = L} m number each s held lines run =
    let told = ap (λ (ls : List (List ℕ)). length ls) run.same in
    let count = counted m.start m.nothing run.items run.runs in
    let ends = ap (λ s. number s (end_of m.with_line m.nothing run.items)) run.ends in
    let holds = ap (λ h. number s h) run.holds in
    omega (arith, told, count, ends, holds, length-map run.items m.text)
  where
    counted : (s : S) (h : H) (xs : List L) → IsRun m s xs
        → number (end_of m.after s xs) (end_of m.with_line h xs) ≡ number s h + length xs
    counted s h [] runs = omega arith
    counted s h (x ∷ xs) runs =
        omega (arith, each s h x runs.0, counted (m.after s x) (m.with_line h x) xs runs.1)

-- How often something begins at a number.
use Rattle.std.proofs.Common.{◌≡◌, ℕ, ◌==◌, ◌≤◌, Bool, cond, List, [], ◌∷◌, map, refl, ap, subst, sym, arith, true, false}
use Rattle.std.specs.List.{count_by, slice_index_or, Contains}
use Rattle.std.proofs.lemmas.List.Sums.{sum_by-cons}
use Rattle.lemmas.proofs.Members.{Contains-map}
use Rattle.lemmas.proofs.Counts.{count, count-cons}
use Rattle.append_values.specs.declared.reason.Link.{Link}
use Rattle.append_values.specs.declared.transaction.Outcome.TheVariants.{Aborted}
use Rattle.append_values.specs.Meaning.Histories.{History, outcome}
use Rattle.append_values.specs.Meaning.Reasons.{IsSimple, AreKept}
use Rattle.append_check.specs.Machinery.Running.{flag}

pub count_starts : {X : Type 0} (f : X → ℕ) (xs : List X) (t : ℕ) → count (map f xs) t ≡ count_by (λ x. f x == t) xs
count_starts f [] t = refl
count_starts f (x ∷ xs) t =
    let rest = count_starts f xs t in
    let one = count-cons (f x) (map f xs) t in
    let two = sum_by-cons (λ y. cond (f y == t) 1 0) x xs in
    omega (arith, rest, one, two)

at_most_one : (b : Bool) → cond b 1 0 ≤ 1
at_most_one true = omega arith
at_most_one false = omega arith

module _ (links : List Link) (starts : List ℕ) (is : starts ≡ map (λ (l : Link). l.from) links) where
  -- links whose first transactions have a flag each
  pub flagged_are_simple : (flags : List Bool) → ((t : ℕ) → count starts t ≡ flag flags t) → IsSimple links
  flagged_are_simple flags counted t =
      let all = count_starts (λ (l : Link). l.from) links t in
      let same = ap (λ ts. count ts t) is in
      let here = counted t in
      let most = at_most_one (slice_index_or flags t false) in
      omega (arith, all, same, here, most)

  -- links whose first transactions aren't aborted
  pub starts_are_kept : (h : History) → ((t : ℕ) → Contains starts t → outcome h t ≡ Aborted → ⊥) → AreKept h links
  starts_are_kept h kept link c =
      kept link.from (subst (λ ts. Contains ts link.from) (sym is) (Contains-map (λ (l : Link). l.from) links link c))

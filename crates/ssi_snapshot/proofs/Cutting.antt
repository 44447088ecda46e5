-- The first visible entries of a list.
use Rattle.std.proofs.Common.{◌≡◌, ℕ, zero, suc, ◌<◌, ◌-◌, ◌+◌, true, false, if◌then◌else◌, List, [], ◌∷◌, ◌++◌, map, take, drop, length, get_or, refl, ◌∙◌, ap, sym, arith, is_some, append_assoc, append-nil}
use Rattle.std.proofs.lemmas.List.{drop_more, take_more, map_push, drop_all}
use Rattle.adya_values.specs.declared.event.Entry.{Entry as EntryValue}
use Rattle.adya_values.specs.Meaning.Histories.{Entry}
use Rattle.adya_values.specs.Mirror.Events.{entry_of}
use Rattle.adya_values.specs.Meaning.Events.{visible}
use Rattle.ssi_snapshot.specs.Clauses.Listings.{up_to}

up_to_nil : (n : ℕ) → up_to n [] ≡ []
up_to_nil zero = refl
up_to_nil (suc n) = refl

up_to_step : (n m : ℕ) (w : Entry) (ws : List Entry) → 0 < n → m ≡ (if is_some (visible w.content) then n - 1 else n) → up_to n (w ∷ ws) ≡ w ∷ up_to m ws
up_to_step zero m w ws some is = absurd (omega (arith, some))
up_to_step (suc n) m w ws some is =
    elim (is_some (visible w.content)) as (λ b. m ≡ (if b then suc n - 1 else suc n) → w ∷ (if b then up_to n ws else up_to (suc n) ws) ≡ w ∷ up_to m ws) [
      | true ↦ λ e. ap (λ k. w ∷ up_to k ws) (omega (arith, e))
      | false ↦ λ e. ap (λ k. w ∷ up_to k ws) (sym e)
    ] is

pub cut_more : (n : ℕ) (xs : List EntryValue) (i left next : ℕ) (x : EntryValue) → i < length xs → x ≡ get_or xs i x → 0 < left → next ≡ (if is_some (visible (entry_of x).content) then left - 1 else left)
    → up_to n (map entry_of xs) ≡ map entry_of (take i xs) ++ up_to left (map entry_of (drop i xs))
    → up_to n (map entry_of xs) ≡ map entry_of (take (i + 1) xs) ++ up_to next (map entry_of (drop (i + 1) xs))
cut_more n xs i left next x h is some e was =
    let rest = map entry_of (drop (i + 1) xs) in
    was
    ∙ ap (λ ys. map entry_of (take i xs) ++ up_to left (map entry_of ys)) (drop_more xs i x h ∙ ap (λ y. y ∷ drop (i + 1) xs) (sym is))
    ∙ ap (λ ys. map entry_of (take i xs) ++ ys) (up_to_step left next (entry_of x) rest some e)
    ∙ sym (append_assoc (map entry_of (take i xs)) (entry_of x ∷ []) (up_to next rest))
    ∙ ap (λ ys. ys ++ up_to next rest) (sym (ap (map entry_of) (take_more xs i x h ∙ ap (λ y. take i xs ++ y ∷ []) (sym is)) ∙ map_push entry_of (take i xs) x))

pub cut_all : (n : ℕ) (xs : List EntryValue) (i left : ℕ) → i ≡ length xs
    → up_to n (map entry_of xs) ≡ map entry_of (take i xs) ++ up_to left (map entry_of (drop i xs))
    → map entry_of (take i xs) ≡ up_to n (map entry_of xs)
cut_all n xs i left e was =
    sym (was ∙ ap (λ ys. map entry_of (take i xs) ++ up_to left (map entry_of ys)) (drop_all i xs (omega (arith, e)))
    ∙ ap (λ ys. map entry_of (take i xs) ++ ys) (up_to_nil left) ∙ append-nil (map entry_of (take i xs)))

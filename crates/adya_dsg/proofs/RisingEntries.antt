-- The entries of each scan of a checked history rise by their keys.
use Rattle.std.proofs.Common.{zero, suc, List, [], ◌∷◌, ◌++◌, subst, arith}
use Rattle.std.specs.List.{Contains}
use Rattle.adya_values.specs.Meaning.Histories.{Event, History}
use Rattle.adya_values.specs.Clauses.Rules.{EachAfter, IsRising}
use Rattle.adya_values.specs.Clauses.Acceptance.{IsChecked}
use Rattle.lemmas.proofs.Members.{none_contained}

each_at : (P : Event → Type 0) (before es : List Event) (e : Event) → EachAfter (λ b x. P x) before es → Contains es e
    → P e
each_at P before [] e all c = absurd (none_contained e c)
each_at P before (x ∷ es) e all (zero, l, same) = subst P same all.0
each_at P before (x ∷ es) e all (suc i, l, same) = each_at P (before ++ x ∷ []) es e all.1 (i, omega (arith, l), same)

pub rising_at : (h : History) → IsChecked h → (e : Event) → Contains h.events e → IsRising e
rising_at h checked e = each_at IsRising [] h.events e checked.well_formed.rising

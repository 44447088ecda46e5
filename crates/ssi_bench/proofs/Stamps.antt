-- The stamps of a run's versions stay below the next one.
use Rattle.std.proofs.Common.{◌≡◌, ℕ, suc, ◌<◌, List, [], ◌∷◌, ◌++◌, filter, Option, Some, None, Bool, sym, subst, arith}
use Rattle.std.specs.List.{All}
use Rattle.std.proofs.lemmas.List.Elements.{All-nil, All-cons, All-append, All-filter}
use Rattle.adya_values.specs.Meaning.Histories.{Entry}
use Rattle.adya_values.specs.Meaning.Events.{listed}
use Rattle.ssi_versions.specs.Meaning.Changes.{Held, listing, stamped}
use Rattle.ssi_versions.specs.Mirror.{chain_of, IsAbove}

above_listing : (n : ℕ) (o : Option Entry) → All (λ h. h.stamp < suc n) (listing (stamped n o))
above_listing n None = All-nil (λ h. h.stamp < suc n)
above_listing n (Some w) = All-cons (λ h. h.stamp < suc n) _ [] (omega arith) (All-nil (λ h. h.stamp < suc n))

above_more : (n : ℕ) (hs : List Held) → All (λ h. h.stamp < n) hs → All (λ h. h.stamp < suc n) hs
above_more n hs above = λ k d within. let below = above k d within in omega (arith, below)

pub above_installed : (n : ℕ) (old new : List Held) (ws : List Entry) → IsAbove n old
    → ((key : List ℕ) → chain_of key new ≡ chain_of key old ++ listing (stamped n (listed key ws))) → IsAbove (suc n) new
above_installed n old new ws above added = λ key.
    subst (All (λ h. h.stamp < suc n)) (sym (added key))
    (All-append (λ h. h.stamp < suc n) (chain_of key old) (listing (stamped n (listed key ws)))
    (above_more n (chain_of key old) (above key)) (above_listing n (listed key ws)))

pub above_kept : (n : ℕ) (old new : List Held) (test : List ℕ → Held → Bool) → IsAbove n old
    → ((key : List ℕ) → chain_of key new ≡ filter (test key) (chain_of key old)) → IsAbove n new
above_kept n old new test above kept = λ key.
    subst (All (λ h. h.stamp < n)) (sym (kept key)) (All-filter (test key) (λ h. h.stamp < n) (chain_of key old) (above key))

-- The first lines of a segment load its rows.
use Rattle.std.proofs.Common.{◌≡◌, ℕ, suc, ◌≤◌, ◌+◌, List, [], ◌∷◌, ◌++◌, Some, length, refl, sym, subst, arith}
use Rattle.std.specs.Prelude.{flat_map}
use Rattle.std.specs.List.{AllByRecursion}
use Rattle.adya_keys.specs.Meaning.Keys.{Key}
use Rattle.adya_values.specs.Meaning.Histories.{FinalPair}
use Rattle.adya_values.specs.Meaning.KeySets.{insert}
use Rattle.adya_values.specs.Meaning.Serial.{Contents, empty, put}
use Rattle.adya_line.specs.Meaning.Limits.{IsFinal}
use Rattle.ssi_store.specs.Meaning.Courses.{Course, New}
use Rattle.ssi_loads.specs.Meaning.Loads.{load_of, load_lines, groups, loaded_line}
use Rattle.ssi_loads.specs.Laws.{FirstLinesLoad}
use Rattle.ssi_loads.specs.Meaning.Loaded.{AreContents}
use Rattle.ssi_loads.proofs.Groups.{joined, IsShort, are_groups}
use Rattle.ssi_loads.proofs.LoadedCourses.{IsIdle, LeadTo, filled, with_keys, idle_at_first, load_leads, and_then}
use Rattle.ssi_loads.proofs.LoadedRows.{holds_rows}

filled_on : (m : Contents) (a b : List FinalPair) → filled m (a ++ b) ≡ filled (filled m a) b
filled_on m [] b = refl
filled_on m (row ∷ a) b = filled_on (put m row.key (Some row.value)) a b

with_keys_on : (ks : List Key) (a b : List FinalPair) → with_keys ks (a ++ b) ≡ with_keys (with_keys ks a) b
with_keys_on ks [] b = refl
with_keys_on ks (row ∷ a) b = with_keys_on (insert row.key ks) a b

pub both_parts : (P : FinalPair → Type 0) (a b : List FinalPair) → AllByRecursion P (a ++ b) → AllByRecursion P a × AllByRecursion P b
both_parts P [] b all = (tt, all)
both_parts P (x ∷ a) b all = let rest = both_parts P a b all.1 in ((all.0, rest.0), rest.1)

-- whatever the number of the next transaction
abbrev IsIdleThen : Contents → List Key → Course → Type 0
IsIdleThen m ks c = (n : ℕ) × IsIdle m ks n c

loads_lead : (m : Contents) (ks : List Key) (n : ℕ) (c : Course) (gs : List (List FinalPair)) → IsIdle m ks n c
    → AllByRecursion IsFinal (joined gs) → AllByRecursion IsShort gs → n + length gs ≤ 4294967296
    → LeadTo (IsIdleThen (filled m (joined gs)) (with_keys ks (joined gs))) c (flat_map load_of gs)
loads_lead m ks n c [] was good short l = record { course = c; replayed = refl; holds = (n, was) }
loads_lead m ks n c (g ∷ gs) was good short l =
    let parts = both_parts IsFinal g (joined gs) good in
    let first = load_leads m ks n c g was (omega (arith, l)) parts.0 short.0 in
    let rest = loads_lead (filled m g) (with_keys ks g) (suc n) first.course gs first.holds parts.1 short.1 (omega (arith, l)) in
    and_then c first.course (load_of g) (flat_map load_of gs) first.replayed
    (subst (λ ks'. LeadTo (IsIdleThen (filled m (g ++ joined gs)) ks') first.course (flat_map load_of gs))
    (sym (with_keys_on ks g (joined gs)))
    (subst (λ m'. LeadTo (IsIdleThen m' (with_keys (with_keys ks g) (joined gs))) first.course (flat_map load_of gs))
    (sym (filled_on m g (joined gs))) rest))

all_loaded : (rows : List FinalPair) → AreContents rows
    → LeadTo (IsIdleThen (filled empty rows) (with_keys [] rows)) (New 1) (load_lines rows)
all_loaded rows is =
    let are = are_groups rows in
    subst (λ l. LeadTo (IsIdleThen (filled empty l) (with_keys [] l)) (New 1) (load_lines rows)) are.joins
    (loads_lead empty [] 1 (New 1) (groups rows) idle_at_first (subst (AllByRecursion IsFinal) (sym are.joins) is.within)
    are.short (omega (arith, are.few, is.few)))

pub first_lines_load : FirstLinesLoad
first_lines_load n rows is =
    let loads = all_loaded rows is in
    let whole : LeadTo (IsIdleThen (filled empty rows) (with_keys [] rows)) (New 1) (load_lines rows ++ (loaded_line ∷ [])) =
    and_then (New 1) loads.course (load_lines rows) (loaded_line ∷ []) loads.replayed (record {
      course = loads.course;
      replayed = (loads.course, refl, refl);
      holds = loads.holds;
    }) in record {
      has_header = refl;
      course = whole.course;
      replayed = (New 1, refl, whole.replayed);
      idle = whole.holds.1.none;
      contents = holds_rows whole.holds.0 whole.course rows whole.holds.1 is.rise;
    }

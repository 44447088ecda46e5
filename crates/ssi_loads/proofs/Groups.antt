-- The groups of rows: none is too long, there are few, and together they are the rows.
use Rattle.std.proofs.Common.{◌≡◌, suc, ◌≤◌, ◌<◌, ◌+◌, ◌*◌, ◌==◌, Bool, true, false, cond, List, [], ◌∷◌, ◌++◌, length, min, refl, sym, ◌∙◌, ap, subst, arith, inl, inr}
use Rattle.std.specs.Prelude.{flat_map}
use Rattle.std.specs.List.{AllByRecursion}
use Rattle.std.proofs.lemmas.Bool.{cases_Bool, eq-eqb, eqb-true, eqb-false, ne_eqb}
use Rattle.std.proofs.lemmas.List.{append-nil, append_assoc, length-append}
use Rattle.adya_values.specs.Meaning.Histories.{FinalPair}
use Rattle.ssi_loads.specs.Meaning.Loads.{groups_after, groups}

-- all their rows, in order
abbrev pub joined : List (List FinalPair) → List FinalPair
joined gs = flat_map (λ g. g) gs

abbrev pub IsShort : List FinalPair → Type 0
IsShort g = length g ≤ 65535

pub record AreGroups (rows : List FinalPair) (gs : List (List FinalPair)) : Type 0 where
  pub joins : joined gs ≡ rows
  pub short : AllByRecursion IsShort gs
  pub few : 65535 * length gs < length rows + 65535

longer : (begun : List FinalPair) (row : FinalPair) → length (begun ++ (row ∷ [])) ≡ suc (length begun)
longer begun row = length-append begun (row ∷ []) ∙ (let e : length begun + 1 ≡ suc (length begun) = omega arith in e)

cut : (begun : List FinalPair) (row : FinalPair) (rows : List FinalPair) (b : Bool) → (length begun == 65535) ≡ b
    → groups_after begun (row ∷ rows) ≡ cond b (begun ∷ groups_after (row ∷ []) rows) (groups_after (begun ++ (row ∷ [])) rows)
cut begun row rows b e = ap (λ x. cond x (begun ∷ groups_after (row ∷ []) rows) (groups_after (begun ++ (row ∷ [])) rows)) e

after : (begun rows : List FinalPair) → 0 < length begun → length begun ≤ 65535 → AreGroups (begun ++ rows) (groups_after begun rows)
after begun [] some short = record {
  joins = refl;
  short = (short, tt);
  few = omega (arith, length-append begun []);
}
after begun (row ∷ rows) some short =
    elim (cases_Bool (length begun == 65535)) [
      | inl full ↦
          let rest = after (row ∷ []) rows (omega arith) (omega arith) in
          subst (AreGroups (begun ++ (row ∷ rows))) (sym (cut begun row rows true full)) (record {
            joins = ap (λ l. begun ++ l) rest.joins;
            short = (short, rest.short);
            few = (
                let n = eqb-true (length begun) 65535 full in
                omega (arith, n, rest.few, length-append begun (row ∷ rows))
                );
          })
      | inr not_full ↦
          let room : length begun < 65535 = omega (arith, short, eqb-false (length begun) 65535 not_full) in
          let rest = after (begun ++ (row ∷ [])) rows (omega (arith, longer begun row)) (omega (arith, longer begun row, room)) in
          subst (AreGroups (begun ++ (row ∷ rows))) (sym (cut begun row rows false not_full))
          (subst (λ l. AreGroups l (groups_after (begun ++ (row ∷ [])) rows)) (append_assoc begun (row ∷ []) rows) rest)
    ]

pub are_groups : (rows : List FinalPair) → AreGroups rows (groups rows)
are_groups [] = record { joins = refl; short = tt; few = omega arith }
are_groups (row ∷ rows) = after (row ∷ []) rows (omega arith) (omega arith)

-- ---- group by group

fills : (begun more rest : List FinalPair) → length begun + length more ≤ 65535
    → groups_after begun (more ++ rest) ≡ groups_after (begun ++ more) rest
fills begun [] rest l = ap (λ g. groups_after g rest) (sym (append-nil begun))
fills begun (row ∷ more) rest l =
    let not_full : (length begun == 65535) ≡ false = ne_eqb (length begun) 65535 (λ e. omega (arith, l, e)) in
    cut begun row (more ++ rest) false not_full
    ∙ fills (begun ++ (row ∷ [])) more rest (omega (arith, longer begun row, l))
    ∙ ap (λ g. groups_after g rest) (append_assoc begun (row ∷ []) more)

finished : (group rest : List FinalPair) → length group ≡ min 65535 (length group + length rest)
    → groups_after group rest ≡ group ∷ groups rest
finished group [] l = refl
finished group (row ∷ rest) l = cut group row rest true (eq-eqb (length group) 65535 (omega (arith, l)))

-- the first rows, as many as fit, are the first group
pub one_group : (group rest : List FinalPair) → length group ≡ min 65535 (length group + length rest) → 0 < length group
    → groups (group ++ rest) ≡ group ∷ groups rest
one_group [] rest l some = absurd (omega (arith, some))
one_group (row ∷ more) rest l some =
    fills (row ∷ []) more rest (omega (arith, l)) ∙ finished (row ∷ more) rest l

-- Room for numbers: what fits if more or larger ones do.
use Rattle.std.proofs.Common.{◌≡◌, ℕ, ◌≤◌, true, refl, arith}
use Rattle.std.proofs.Math.Nat.{le_trans}
use Rattle.std.proofs.lemmas.Bool.{le-leb, leb-true}
use Rattle.adya_keys.specs.Machinery.Indices.{fits_in, CanPush}
use Rattle.adya_keys.specs.declared.indices.Indices.{Indices}
use Rattle.adya_keys.specs.declared.indices.Indices.TheVariants.{Small, Large}

lesser_fits : (x : Indices) (most less : ℕ) → less ≤ most → fits_in x most ≡ true → fits_in x less ≡ true
lesser_fits (Small v) most less l e = le-leb less 4294967295 (le_trans l (leb-true most 4294967295 e))
lesser_fits (Large v) most less l e = refl

pub fewer_fit : (x : Indices) (n m most less : ℕ) → m ≤ n → less ≤ most → CanPush x n most → CanPush x m less
fewer_fit x n m most less few l can =
    let room = can.room in
    record { room = omega (arith, few, room); fits = lesser_fits x most less l can.fits }

use Rattle.std.proofs.Common.{◌∷◌, reverse, refl, inr, arith}
use Rattle.edn.specs.Machinery.TapeForms.{tape_forms}
use Rattle.edn.proofs.Rows.{length_frames}
use Rattle.edn.proofs.Tapes.{length_back}
use Rattle.edn.proofs.builder.Builder.begin.Goals as goal

pub returns-then-len-ge-MAX_DEPTH-clause-refused : goal.returns-then-len-ge-MAX_DEPTH-clause-refused
returns-then-len-ge-MAX_DEPTH-clause-refused c =
    let b = c.args.self.now in
    let many = length_frames (b.inner ∷ reverse b.outer.items) (tape_forms b.forms) in
    let back = length_back b.outer.items in
    let ok = b.outer.ok.0 in
    let len = c.len.ensures in
    let deep = c.if-len-ge-MAX_DEPTH.true in
    inr (refl, omega (arith, many, back, ok, len, deep))

pub returns-clause-shallow : goal.returns-clause-shallow
returns-clause-shallow c =
    let b = c.args.self.now in
    let many = length_frames (b.inner ∷ reverse b.outer.items) (tape_forms b.forms) in
    let back = length_back b.outer.items in
    let ok = b.outer.ok.0 in
    let len = c.len.ensures in
    let few = c.if-len-ge-MAX_DEPTH.false in
    omega (arith, many, back, ok, len, few)

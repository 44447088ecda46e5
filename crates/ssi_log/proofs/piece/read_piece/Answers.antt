use Rattle.std.proofs.Common.{◌≡◌, ℕ, List, arith, sym, subst}
use Rattle.std.proofs.lemmas.List.Elements.{All-append}
use Rattle.sqlite_disk.specs.Disk.{Holds}
use Rattle.ssi_log.specs.Machinery.Pieces.{IsTextOf}
use Rattle.ssi_log.specs.Meaning.Texts.{HasNoZero}
use Rattle.ssi_log.proofs.PiecesRead.{plain_before, read_text}
use Rattle.ssi_log.proofs.piece.read_piece.Goals as goal

pub returns-in_ok-extend_from_slice-in-Some-clause-ended : goal.returns-in_ok-extend_from_slice-in-Some-clause-ended
returns-in_ok-extend_from_slice-in-Some-clause-ended g c = λ is_end clean begins.
    let file = g.D.Disk.seen c.args.disk.now in
    subst (IsTextOf file) (sym {A = List ℕ} c.in_ok-extend_from_slice-in-Some.ensures.items)
    (read_text file c.args.text.now.items c.read_at.new.buf begins
    (subst (λ k. Holds file k c.read_at.new.buf) (sym c.requires.size) (c.in_default.ensures.read clean c.requires.some))
    c.requires.plain c.in-Some.end c.in-Some.ensures.0 c.in-Some.ensures.1)

pub returns-in_ok-extend_from_slice-in-Some-clause-plain : goal.returns-in_ok-extend_from_slice-in-Some-clause-plain
returns-in_ok-extend_from_slice-in-Some-clause-plain g c =
    subst HasNoZero (sym c.in_ok-extend_from_slice-in-Some.ensures.items)
    (All-append (λ b. b ≡ 0 → ⊥) c.args.text.now.items _ c.requires.plain
    (plain_before c.read_at.new.buf c.in-Some.end (omega (arith, c.in-Some.ensures.0.high)) c.in-Some.ensures.0.before))

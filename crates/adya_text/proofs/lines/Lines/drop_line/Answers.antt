use Rattle.std.proofs.Common.{◌≢◌, [], ◌∷◌, ◌++◌, refl, ◌∙◌, inl}
use Rattle.std.proofs.KnownBytes.{Consumes-nil}
use Rattle.std.proofs.lemmas.List.Elements.{All-nil, All-append}
use Rattle.adya_text.proofs.FewReads.{took_none, took_some}
use Rattle.adya_text.proofs.LineTaken.{piece_taken, filled, not_failed, as_before}
use Rattle.adya_text.proofs.lines.Lines.drop_line.Goals as goal

pub loop-self-init : goal.loop-self-init
loop-self-init g c = (g.met.S.Source.same_refl _, refl, took_none _ _ _, ([], All-nil (λ b. b ≢ 10), Consumes-nil _))

pub loop-self-preserved : goal.loop-self-preserved
loop-self-preserved g c =
    let (stream, same, few, (dropped, plain, eaten)) = c.loop-self.invariant in
    let (taken, plain_taken, moved) = c.if-drop_piece.ensures.dropped in
    let fill = c.in_ok-fill.ensures in (
      g.met.S.Source.same_trans _ _ _ stream fill.stream,
      as_before _ _ (not_failed _ fill.fault.1) fill.kept ∙ same,
      took_some _ _ _ _ _ _ few fill.bytes fill.few (fill.some c.if-not-branch.false),
      (
        dropped ++ taken,
        All-append (λ b. b ≢ 10) dropped taken plain plain_taken,
        filled _ _ _ (dropped ++ taken) c.drop_piece.new.self c.fill.new.self
            (piece_taken _ _ dropped taken [] c.drop_piece.new.self c.loop-self.self _ eaten moved refl)
            (c.if-drop_piece.ensures.all refl) fill.bytes,
      ),
    )

pub returns-then-drop_piece-clause-ended : goal.returns-then-drop_piece-clause-ended
returns-then-drop_piece-clause-ended g c =
    let (stream, same, few, (dropped, plain, eaten)) = c.loop-self.invariant in
    let (taken, plain_taken, moved) = c.if-drop_piece.ensures.dropped in
    inl (record {
      rest = dropped ++ taken;
      plain = All-append (λ b. b ≢ 10) dropped taken plain plain_taken;
      consumed = piece_taken _ _ dropped taken (10 ∷ []) c.drop_piece.new.self c.loop-self.self _ eaten moved refl;
    })

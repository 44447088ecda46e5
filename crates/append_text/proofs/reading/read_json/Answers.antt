use Rattle.std.proofs.Common.{◌∙◌}
use Rattle.append_text.specs.Meaning.Notations.{after_mark}
use Rattle.append_text.specs.Machinery.BufferTexts.{pending_in}
use Rattle.append_text.proofs.FirstBytes.{nothing_pending}
use Rattle.append_text.proofs.reading.read_json.Goals as goal

pub returns-clause-history : goal.returns-clause-history
returns-clause-history g c = λ text is.
    let none = c.in_ok-skip_mark.ensures.kept text c.new-buffer.ensures.start c.new-buffer.ensures.end
    (nothing_pending (pending_in c.new-buffer.result) (g.S.Read.remaining c.args.source.now) text c.new-buffer.ensures.pending is) in
    let begun = after_mark text in
    let start = c.in_ok-skip_mark.ensures.start ∙ c.new-buffer.ensures.start in
    c.json_text.ensures.history begun start none

pub returns-clause-fault : goal.returns-clause-fault
returns-clause-fault g c = λ text is.
    let none = c.in_ok-skip_mark.ensures.kept text c.new-buffer.ensures.start c.new-buffer.ensures.end
    (nothing_pending (pending_in c.new-buffer.result) (g.S.Read.remaining c.args.source.now) text c.new-buffer.ensures.pending is) in
    let begun = after_mark text in
    let start = c.in_ok-skip_mark.ensures.start ∙ c.new-buffer.ensures.start in
    c.json_text.ensures.fault begun start none

use Rattle.append_text.proofs.FirstBytes.{array_decided, other_decided}
use Rattle.append_text.proofs.text_form.text_form.Goals as goal

pub returns-then-first-eq91 : goal.returns-then-first-eq91
returns-then-first-eq91 c = array_decided c.args.text.now c.after_blanks-begun.result.now c.after_blanks.result.now
    c.form_of_first.result c.after_blanks-begun.ensures c.in-len1-up.len_at_least c.if-first-eq91.true c.after_blanks.ensures
    c.form_of_first.ensures

pub returns-else-first-eq91 : goal.returns-else-first-eq91
returns-else-first-eq91 c = other_decided c.args.text.now c.after_blanks-begun.result.now c.form_of_first-in-len1-up.result
    c.after_blanks-begun.ensures c.in-len1-up.len_at_least c.if-first-eq91.false c.form_of_first-in-len1-up.ensures

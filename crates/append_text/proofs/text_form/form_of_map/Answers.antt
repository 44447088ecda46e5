use Rattle.append_text.proofs.FirstBytes.{key_decided}
use Rattle.append_text.proofs.text_form.form_of_map.Goals as goal

pub returns-in-len1-up : goal.returns-in-len1-up
returns-in-len1-up c = key_decided c.args.text.now c.after_blanks.result.now c.form_if.result c.after_blanks.ensures
    c.in-len1-up.len_at_least c.form_if.ensures

use Rattle.std.proofs.Common.{Result, Ok, Err, IfOk, IfErr, inr}
use Rattle.edn.specs.Meaning.Readers.{form_read}
use Rattle.edn.proofs.NoTexts.{no_text}
use Rattle.edn.proofs.TextsRead.{reads_on, all_read}
use Rattle.edn.proofs.reader.Reader.read.Goals as goal

-- what follows from two facts of a result
both : {T E : Type 0} (r : Result T E) (P Q R : T → Type 0) → ((x : T) → P x → Q x → R x) → IfOk r P → IfOk r Q → IfOk r R
both (Ok x) P Q R f p q = f x p q
both (Err e) P Q R f p q = tt

three : {T E : Type 0} (r : Result T E) (P Q R S : T → Type 0) → ((x : T) → P x → Q x → R x → S x) → IfOk r P → IfOk r Q
    → IfOk r R → IfOk r S
three (Ok x) P Q R S f p q s = f x p q s
three (Err e) P Q R S f p q s = tt

pub returns-in_default-read-clause-extends : goal.returns-in_default-read-clause-extends
returns-in_default-read-clause-extends g c = λ text fs h.
    let old = c.args.self.now in
    let new = c.read_form-read.new.self in
    let before = g.S.Read.remaining c.args.source.now in
    let after = g.S.Read.remaining c.read_form-read.new.source in
    three c.read_form-read.result _ _ _ _
    (λ some reads ready line is. reads_on text fs old new before after (form_read new) h (reads is) ready (line is))
    (c.read_form-read.ensures.form h.ready) (c.read_form-read.ensures.ready h.ready) (c.read_form-read.ensures.line text h.line)

pub returns-in_default-read-clause-whole : goal.returns-in_default-read-clause-whole
returns-in_default-read-clause-whole g c = λ text fs h.
    let before = g.S.Read.remaining c.args.source.now in
    both c.read_form-read.result _ _ _
    (λ some over _ is. all_read text fs c.args.self.now before h (over is))
    (c.read_form-read.ensures.end h.ready) (c.read_form-read.ensures.end h.ready)

both_err : {T E : Type 0} (r : Result T E) (P Q R : E → Type 0) → ((e : E) → P e → Q e → R e) → IfErr r P → IfErr r Q → IfErr r R
both_err (Ok x) P Q R f p q = tt
both_err (Err e) P Q R f p q = f e p q

pub returns-in-Err-clause-refuses : goal.returns-in-Err-clause-refuses
returns-in-Err-clause-refuses g c = λ text fs h.
    let before = g.S.Read.remaining c.args.source.now in
    both_err c.read_form-read.result _ _ _
    (λ e none other of_text. no_text text fs c.args.self.now before h (none of_text) (other of_text))
    (c.read_form-read.ensures.refused h.ready) (c.read_form-read.ensures.other h.ready)

pub returns-in-Err-clause-fault : goal.returns-in-Err-clause-fault
returns-in-Err-clause-fault g c =
    both_err c.read_form-read.result _ _ _ (λ e failed _ device. inr (failed device)) c.read_form-read.ensures.fault c.read_form-read.ensures.fault

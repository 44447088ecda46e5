use Rattle.std.proofs.Common.{◌≡◌, List, ℕ, Result, Ok, Err, IfOk, Vec, Global, sym, ◌∙◌}
use Rattle.std.specs.Prelude.{IsTrue, Bool}
use Rattle.ssi_log.specs.declared.fault.LogFault.{LogFault}
use Rattle.ssi_log.specs.Meaning.Texts.{text_of}
use Rattle.ssi_log.specs.Machinery.Pieces.{IsTextOf}
use Rattle.ssi_log.proofs.Standings.{own_text}
use Rattle.ssi_log.proofs.log.Log.read.Goals as goal

same : (r : Result (Vec ℕ Global) LogFault) (clean : Bool) (file text : List ℕ) → text_of file ≡ text
    → IfOk r (λ v. IsTrue clean → IsTextOf file v.items) → IfOk r (λ v. IsTrue clean → v.items ≡ text)
same (Ok v) clean file text is read = λ held. sym (read held).0 ∙ is
same (Err e) clean file text is read = tt

pub returns-clause-own : goal.returns-clause-own
returns-clause-own g c = λ text has.
    same c.read_text.result (g.D.Disk.is_clean c.read_text.new.disk) (g.D.Disk.seen c.args.self.now.disk) text
    (own_text c.args.self.now text has) c.read_text.ensures.text

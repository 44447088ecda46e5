use Rattle.std.proofs.lemmas.Result.{IfOk-weaker}
use Rattle.append_text.proofs.KeptNames.{stays_one_to_one, keeps_after}
use Rattle.append_text.proofs.name.Names.keep.Goals as goal

pub invariant_of-self : goal.invariant_of-self
invariant_of-self c = record {
  one_to_one = stays_one_to_one c.insert_full.result c.args.self.now.kept.keys c.insert_full.new.self.keys c.args.name c.requires
      c.args.self.now.one_to_one c.insert_full.ensures.keys c.insert_full.ensures.err;
}

pub returns-clause-keeps : goal.returns-clause-keeps
returns-clause-keeps c = IfOk-weaker c.number_at.result _ _ (λ n _. keeps_after c.args.self.now.kept.keys c.insert_full.new.self.keys c.args.name c.in_ok-place.ensures.keys) c.number_at.ensures

use Rattle.ssi_cli.proofs.runs.serve_commands_together.Goals as goal

pub returns-clause-run : goal.returns-clause-run
returns-clause-run g c =
    let (together, follow, leaves) = c.run_together-served.ensures.run in (
      c.run_together-served.result.0,
      c.run_together-served.result.1,
      c.status_of_serving.ensures.outcome,
      together,
      follow,
      leaves,
    )

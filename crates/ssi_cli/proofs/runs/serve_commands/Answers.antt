use Rattle.ssi_cli.proofs.runs.serve_commands.Goals as goal

pub returns-clause-run : goal.returns-clause-run
returns-clause-run g c =
    let (turns, follow, leaves) = c.run_socket-served.ensures.run in (
      c.run_socket-served.result.0,
      c.run_socket-served.result.1,
      c.status_of_serving.ensures.outcome,
      turns,
      follow,
      leaves,
    )

use Rattle.std.proofs.Common.{◌≡◌, ℕ, Bool, List, length, take, min, refl, ◌∙◌, ap, subst, ◌++◌}
use Rattle.std.specs.Option.{option_map}
use Rattle.ssi_hub.specs.Clauses.Buffers.{with_written}
use Rattle.ssi_hub.specs.Clauses.Calls.{Wrote, with_call}
use Rattle.ssi_hub.specs.Mirror.{Changed, Stands, buffers_of}
use Rattle.ssi_durable.specs.Meaning.Logs.{logged}
use Rattle.ssi_durable.specs.Clauses.Holding.{RestsOn}
use Rattle.ssi_durable.specs.Mirror.Servers.{to_give}
use Rattle.ssi_durable.proofs.Serving.{written}
use Rattle.ssi_durable.proofs.Giving.{first_given, held_closed, held_written, given_left, some_settled}
use Rattle.ssi_durable.proofs.server.Server.written.Goals as goal

pub returns-clause-serves : goal.returns-clause-serves
returns-clause-serves g c = λ n began calls was.
    let dumps = g.S.ProtocolStore.keeps in
    let self = c.args.self.now in
    let t = c.args.token in
    let count = c.args.count in
    let now = record self { hub = c.written.new.self; holds = c.written-2.new.self } in
    let few : c.min-count.result ≡ min count (length (to_give self t)) =
    c.min-count.ensures ∙ ap (λ (l : List ℕ). min count (length l)) c.to_write.ensures in
    written dumps g.S.AnyStore.is_at n began self now calls t (take count (to_give self t)) was
    (subst (λ (bytes : List ℕ). Stands dumps c.written.new.self (with_call (Wrote t bytes) calls))
    (first_given self t count c.min-count.result few) (c.written.ensures.stands dumps calls was.stands)) refl refl refl
    (λ e some.
    c.settled_lines_are_sure.ensures (some_settled self t count (was.mode ∙ e) some) (began.lines ++ logged was.sure)
    (began.lines ++ logged was.since) was.keeps)
    (λ e opened.
    held_written dumps self calls was.since began.before was.sure t count c.min-count.result c.written-2.new.self (was.mode ∙ e) was.stands
    was.parts few c.written-2.ensures.all c.written-2.ensures.own c.written-2.ensures.others (subst (λ (b : Bool). RestsOn b self.holds was.sure was.since began.before) e was.rests) opened)
    (λ e closed.
    held_closed dumps self calls was.since began.before was.sure t count c.min-count.result c.written-2.new.self (was.mode ∙ e) was.stands
    was.parts few c.written-2.ensures.all c.written-2.ensures.own c.written-2.ensures.others (subst (λ (b : Bool). RestsOn b self.holds was.sure was.since began.before) e was.rests) closed)

pub returns-clause-given : goal.returns-clause-given
returns-clause-given g c =
    let self = c.args.self.now in
    let t = c.args.token in
    let now = record self { hub = c.written.new.self; holds = c.written-2.new.self } in
    given_left self now t c.args.count c.min-count.result
    (c.min-count.ensures ∙ ap (λ (l : List ℕ). min c.args.count (length l)) c.to_write.ensures) refl refl c.written.ensures.written.own
    c.written-2.ensures.all c.written-2.ensures.own

pub returns-clause-written : goal.returns-clause-written
returns-clause-written g c =
    let self = c.args.self.now in
    let t = c.args.token in
    subst (λ (n : ℕ). Changed self.hub c.written.new.self t (option_map (with_written n) (buffers_of self.hub t)))
    (c.min-count.ensures ∙ ap (λ (l : List ℕ). min c.args.count (length l)) c.to_write.ensures) c.written.ensures.written

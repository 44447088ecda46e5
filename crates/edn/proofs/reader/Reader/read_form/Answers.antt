use Rattle.std.proofs.Common.{rules, refl, ◌∷◌, ◌++◌, ◌∙◌, [], sym, ap, subst, arith}
use Rattle.std.specs.Io.KnownBytes.{prepend_known}
use Rattle.std.proofs.lemmas.Result.{err_from_is_err_and}
use Rattle.edn.specs.Meaning.Lines.{IsAt}
use Rattle.edn.specs.Meaning.Reading.{IsLinked, ReadsTokens}
use Rattle.edn.specs.Meaning.Readers.{form_read, text_left}
use Rattle.edn.specs.Computing.Building.{is_top}
use Rattle.edn.specs.Computing.Stacks.{made_if}
use Rattle.edn.specs.Computing.Tokens.{token_of}
use Rattle.edn.proofs.Blamed.{end_fault, how_unfinished, named_now, not_ok, no_token_again, taken_fault, token_fault}
use Rattle.edn.proofs.Depths.{end_shallow, form_shallow, refused_shallow, shallow_here, stays_shallow}
use Rattle.edn.proofs.FormsRead.{leads_here, leads_on, form_is_read, reads_none, reads_more, reads_form}
use Rattle.edn.proofs.NoForms.{goes_here, goes_on, stopped, ended}
use Rattle.edn.proofs.Nested.{too_deep}
use Rattle.edn.proofs.NotOver.{blank_over, refused_over, unfinished_over}
use Rattle.edn.proofs.Unfailed.{no_device, takes_unfailed}
use Rattle.edn.proofs.OneReading.{only_form}
use Rattle.edn.proofs.TextOver.{text_over}
use Rattle.edn.proofs.reader.Reader.read_form.Goals as goal

pub token-init : goal.token-init
token-init g c = (
  omega arith,
  λ ready. (
    ready.linked,
    ([], reads_none _, leads_here c.args.self.now.stage _ ready.idle, goes_here c.args.self.now.stage _ _ ready.idle, shallow_here c.args.self.now.stage _ ready.idle),
  ),
  c.requires,
  refl,
  λ ended. (ended, refl),
  λ text at. at,
)

pub returns-then-branch-clause-form : goal.returns-then-branch-clause-form
returns-then-branch-clause-form g c = λ ready yes'.
    let (linked, (ts, reads, leads, goes, shallow)) = c.token.invariant.1 (record { linked = ready.linked; idle = c.clear.ensures ∙ ready.idle }) in
    let left = g.S.Read.remaining c.next_token.new.source in
    let start = text_left c.args.self.now (g.S.Read.remaining c.args.source.now) in
    let t = token_of c.next_token.new.leaf c.in-Some.token in
    let f = form_read c.take.new.self in
    let token = rw c.in-Some.is at (c.in_ok-token.ensures.token linked) in
    let more : ReadsTokens start (text_left c.take.new.self left) (ts ++ t ∷ []) =
    subst (λ i. ReadsTokens start (prepend_known i.pending left) (ts ++ t ∷ [])) (sym c.in_ok-take.ensures.input)
    (reads_more start _ _ ts t reads token) in
    let read = form_is_read c.args.self.now.stage c.token.self.stage c.take.new.self.stage ts t _ _ _ f
    (ap (λ done. made_if done c.take.new.self.builder) c.if-branch.true) leads c.in_ok-take.ensures.takes in
    reads_form c.args.self.now.stage c.take.new.self.stage start (text_left c.take.new.self left) (ts ++ t ∷ []) f more read.0 read.2

pub returns-then-branch-clause-only : goal.returns-then-branch-clause-only
returns-then-branch-clause-only g c = λ ready yes' other begins.
    only_form c.args.self.now.stage c.take.new.self.stage (text_left c.args.self.now (g.S.Read.remaining c.args.source.now)) _ (form_read c.take.new.self) other
    (returns-then-branch-clause-form g c ready yes') begins

pub returns-then-branch-clause-ready : goal.returns-then-branch-clause-ready
returns-then-branch-clause-ready g c = λ ready.
    let (linked, (ts, reads, leads, goes, shallow)) = c.token.invariant.1 (record { linked = ready.linked; idle = c.clear.ensures ∙ ready.idle }) in
    let left = g.S.Read.remaining c.next_token.new.source in
    let read = form_is_read c.args.self.now.stage c.token.self.stage c.take.new.self.stage ts (token_of c.next_token.new.leaf c.in-Some.token)
    _ _ _ (form_read c.take.new.self) (ap (λ done. made_if done c.take.new.self.builder) c.if-branch.true) leads c.in_ok-take.ensures.takes in
    record {
      linked = subst (λ i. IsLinked i.beyond left) (sym c.in_ok-take.ensures.input) (c.in_ok-token.ensures.linked linked);
      idle = read.1;
    }

pub token-preserved : goal.token-preserved
token-preserved g c =
    let left = g.S.Read.remaining c.next_token.new.source in
    let start = text_left c.args.self.now (g.S.Read.remaining c.args.source.now) in
    let t = token_of c.next_token.new.leaf c.in-Some.token in (
      search rules,
      λ ready.
          let (linked, (ts, reads, leads, goes, shallow)) = c.token.invariant.1 ready in
          let token = rw c.in-Some.is at (c.in_ok-token.ensures.token linked) in
          let none = ap (λ done. made_if done c.take.new.self.builder) c.if-branch.false in
          let takes = c.in_ok-take.ensures.takes in
          let led = leads_on c.args.self.now.stage c.token.self.stage c.take.new.self.stage ts t _ _ _ none leads takes in
          let went = goes_on c.args.self.now.stage c.token.self.stage c.take.new.self.stage start _ _ ts t _ _ _ none goes reads token takes led in (
            subst (λ i. IsLinked i.beyond left) (sym c.in_ok-take.ensures.input) (c.in_ok-token.ensures.linked linked),
            (
              ts ++ t ∷ [],
              subst (λ i. ReadsTokens start (prepend_known i.pending left) (ts ++ t ∷ [])) (sym c.in_ok-take.ensures.input)
                  (reads_more start _ _ ts t reads token),
              led,
              went,
              stays_shallow c.args.self.now.stage c.token.self.stage c.take.new.self.stage start ts t _ _ _ shallow takes went led,
            ),
          ),
      takes_unfailed c.token.self.stage c.take.new.self.stage t _ _ _ c.in_ok-take.ensures.takes,
      c.in_ok-token.ensures.kept (λ no. cc) ∙ c.token.invariant.3,
      λ ended. absurd (no_token_again _ _ c.in-Some.is (c.in_ok-token.ensures.again (c.token.invariant.4 ended).0.0).0),
      λ text at.
          subst (λ i. IsAt text (prepend_known i.pending left) i.line) (sym c.in_ok-take.ensures.input)
          (rw c.in-Some.is at (c.in_ok-token.ensures.line text (c.token.invariant.5 text at)) refl),
    )

pub returns-in_err-token-clause-refused : goal.returns-in_err-token-clause-refused
returns-in_err-token-clause-refused g c = λ ready.
    let (linked, (ts, reads, leads, goes, shallow)) = c.token.invariant.1 (record { linked = ready.linked; idle = c.clear.ensures ∙ ready.idle }) in
    let p = err_from_is_err_and c.from_residual.result c.from_residual.ensures.1 in
    rw (p.1, p.2) (λ of_text. ended c.args.self.now.stage c.token.self.stage _ _ ts _ goes reads
    (c.in_err-token.ensures.refused linked of_text))

pub returns-in_err-take-clause-refused : goal.returns-in_err-take-clause-refused
returns-in_err-take-clause-refused g c = λ ready.
    let (linked, (ts, reads, leads, goes, shallow)) = c.token.invariant.1 (record { linked = ready.linked; idle = c.clear.ensures ∙ ready.idle }) in
    let token = rw c.in-Some.is at (c.in_ok-token.ensures.token linked) in
    let p = err_from_is_err_and c.from_residual-in_err-take.result c.from_residual-in_err-take.ensures.1 in
    rw (p.1, p.2) (λ of_text. stopped c.args.self.now.stage c.token.self.stage _ _ _ ts (token_of c.next_token.new.leaf c.in-Some.token) _ _ goes
    reads token c.in_err-take.ensures.stops of_text)

pub returns-in_err-take-clause-deep : goal.returns-in_err-take-clause-deep
returns-in_err-take-clause-deep g c = λ ready.
    let (linked, (ts, reads, leads, goes, shallow)) = c.token.invariant.1 (record { linked = ready.linked; idle = c.clear.ensures ∙ ready.idle }) in
    let token = rw c.in-Some.is at (c.in_ok-token.ensures.token linked) in
    let p = err_from_is_err_and c.from_residual-in_err-take.result c.from_residual-in_err-take.ensures.1 in
    rw (p.1, p.2) (λ deep. too_deep c.args.self.now.stage c.token.self.stage _ _ _ ts (token_of c.next_token.new.leaf c.in-Some.token) _ _ leads
    reads token c.in_err-take.ensures.stops deep)

pub returns-in_err-end-clause-refused : goal.returns-in_err-end-clause-refused
returns-in_err-end-clause-refused g c = λ ready.
    let (linked, (ts, reads, leads, goes, shallow)) = c.token.invariant.1 (record { linked = ready.linked; idle = c.clear.ensures ∙ ready.idle }) in
    let none = rw c.in_default.is at (c.in_ok-token.ensures.none linked) in
    let p = err_from_is_err_and c.from_residual-in_err-end.result c.from_residual-in_err-end.ensures.1 in
    rw (p.1, p.2) (λ _. ended c.args.self.now.stage c.token.self.stage _ _ ts _ goes reads none)

pub returns-clause-none : goal.returns-clause-none
returns-clause-none g c = λ ready no'.
    let (linked, (ts, reads, leads, goes, shallow)) = c.token.invariant.1 (record { linked = ready.linked; idle = c.clear.ensures ∙ ready.idle }) in
    let none = rw c.in_default.is at (c.in_ok-token.ensures.none linked) in
    ended c.args.self.now.stage c.token.self.stage _ _ ts _ goes reads none

pub returns-clause-end : goal.returns-clause-end
returns-clause-end g c = λ ready no'.
    let (linked, (ts, reads, leads, goes, shallow)) = c.token.invariant.1 (record { linked = ready.linked; idle = c.clear.ensures ∙ ready.idle }) in
    let blank = rw c.in_default.is at (c.in_ok-token.ensures.blank linked) in
    text_over c.args.self.now.stage c.token.self.stage _ _ ts _ leads c.in_ok-end.ensures.idle c.in_ok-end.ensures.closed
    reads blank

pub returns-in_err-token-clause-other : goal.returns-in_err-token-clause-other
returns-in_err-token-clause-other g c = λ ready.
    let (linked, (ts, reads, leads, goes, shallow)) = c.token.invariant.1 (record { linked = ready.linked; idle = c.clear.ensures ∙ ready.idle }) in
    let p = err_from_is_err_and c.from_residual.result c.from_residual.ensures.1 in
    rw (p.1, p.2) (λ of_text. blank_over c.args.self.now.stage _ _ ts reads (c.in_err-token.ensures.refused linked of_text)
    (c.in_err-token.ensures.other linked of_text))

pub returns-in_err-take-clause-other : goal.returns-in_err-take-clause-other
returns-in_err-take-clause-other g c = λ ready.
    let (linked, (ts, reads, leads, goes, shallow)) = c.token.invariant.1 (record { linked = ready.linked; idle = c.clear.ensures ∙ ready.idle }) in
    let token = rw c.in-Some.is at (c.in_ok-token.ensures.token linked) in
    let p = err_from_is_err_and c.from_residual-in_err-take.result c.from_residual-in_err-take.ensures.1 in
    rw (p.1, p.2) (λ of_text. refused_over c.args.self.now.stage c.token.self.stage _ _ _ ts (token_of c.next_token.new.leaf c.in-Some.token) _ _
    goes leads reads token c.in_err-take.ensures.stops of_text)

pub returns-in_err-end-clause-other : goal.returns-in_err-end-clause-other
returns-in_err-end-clause-other g c = λ ready.
    let (linked, (ts, reads, leads, goes, shallow)) = c.token.invariant.1 (record { linked = ready.linked; idle = c.clear.ensures ∙ ready.idle }) in
    let none = rw c.in_default.is at (c.in_ok-token.ensures.none linked) in
    let p = err_from_is_err_and c.from_residual-in_err-end.result c.from_residual-in_err-end.ensures.1 in
    rw (p.1, p.2) (λ _. unfinished_over c.args.self.now.stage c.token.self.stage _ _ ts _ goes leads reads none
    (how_unfinished c.token.self.stage _ _ c.in_err-end.ensures.unfinished))

pub returns-in_err-token-clause-fault : goal.returns-in_err-token-clause-fault
returns-in_err-token-clause-fault g c =
    let p = err_from_is_err_and c.from_residual.result c.from_residual.ensures.1 in
    rw (p.1, p.2) c.in_err-token.ensures.fault

pub returns-in_err-take-clause-fault : goal.returns-in_err-take-clause-fault
returns-in_err-take-clause-fault g c =
    let p = err_from_is_err_and c.from_residual-in_err-take.result c.from_residual-in_err-take.ensures.1 in
    rw (p.1, p.2) (λ device. absurd (no_device c.token.self.stage (token_of c.next_token.new.leaf c.in-Some.token) _ _ c.token.invariant.2
    c.in_err-take.ensures.stops device))

pub returns-in_err-end-clause-fault : goal.returns-in_err-end-clause-fault
returns-in_err-end-clause-fault g c =
    let p = err_from_is_err_and c.from_residual-in_err-end.result c.from_residual-in_err-end.ensures.1 in
    rw (p.1, p.2) (λ device. absurd (c.in_err-end.ensures.fault device))

-- ---- it goes on

pub returns-then-branch-clause-unfailed : goal.returns-then-branch-clause-unfailed
returns-then-branch-clause-unfailed g c =
    takes_unfailed c.token.self.stage c.take.new.self.stage (token_of c.next_token.new.leaf c.in-Some.token) _ _ _ c.in_ok-take.ensures.takes

pub returns-clause-unfailed : goal.returns-clause-unfailed
returns-clause-unfailed g c = c.token.invariant.2

-- ---- lines

pub returns-then-branch-clause-line : goal.returns-then-branch-clause-line
returns-then-branch-clause-line g c = λ text at _.
    let left = g.S.Read.remaining c.next_token.new.source in
    subst (λ i. IsAt text (prepend_known i.pending left) i.line) (sym c.in_ok-take.ensures.input)
    (rw c.in-Some.is at (c.in_ok-token.ensures.line text (c.token.invariant.5 text at)) refl)

pub returns-in_err-token-clause-faulty : goal.returns-in_err-token-clause-faulty
returns-in_err-token-clause-faulty g c = λ text fs h.
    let (linked, (ts, reads, leads, goes, shallow)) = c.token.invariant.1 (record { linked = h.ready.linked; idle = c.clear.ensures ∙ h.ready.idle }) in
    let p = err_from_is_err_and c.from_residual.result c.from_residual.ensures.1 in
    rw (p.1, p.2) (token_fault text fs c.args.self.now _ h c.token.self.stage ts _ _ _ reads leads
    (c.in_err-token.ensures.bad text linked (c.token.invariant.5 text h.line)) (c.in_err-token.ensures.refused linked))

pub returns-in_err-take-clause-faulty : goal.returns-in_err-take-clause-faulty
returns-in_err-take-clause-faulty g c = λ text fs h.
    let (linked, (ts, reads, leads, goes, shallow)) = c.token.invariant.1 (record { linked = h.ready.linked; idle = c.clear.ensures ∙ h.ready.idle }) in
    let token = rw c.in-Some.is at (c.in_ok-token.ensures.token linked) in
    let at = rw c.in-Some.is at (c.in_ok-token.ensures.line text (c.token.invariant.5 text h.line)) refl in
    let p = err_from_is_err_and c.from_residual-in_err-take.result c.from_residual-in_err-take.ensures.1 in
    rw (p.1, p.2) (taken_fault text fs c.args.self.now _ h c.token.self.stage ts (token_of c.next_token.new.leaf c.in-Some.token) _ _ _ _ _
    reads token goes leads shallow.1 c.in_err-take.ensures.stops (named_now c.token.self.stage _ _ c.token.invariant.2 c.in_err-take.ensures.named) at)

pub returns-in_err-end-clause-faulty : goal.returns-in_err-end-clause-faulty
returns-in_err-end-clause-faulty g c = λ text fs h.
    let (linked, (ts, reads, leads, goes, shallow)) = c.token.invariant.1 (record { linked = h.ready.linked; idle = c.clear.ensures ∙ h.ready.idle }) in
    let blank = rw c.in_default.is at (c.in_ok-token.ensures.blank linked) in
    let at = rw c.in_default.is at (c.in_ok-token.ensures.last text linked (c.token.invariant.5 text h.line)) in
    let p = err_from_is_err_and c.from_residual-in_err-end.result c.from_residual-in_err-end.ensures.1 in
    rw (p.1, p.2) (end_fault text fs c.args.self.now _ h c.token.self.stage ts _ _ _ _ reads blank goes leads c.in_err-end.ensures.unfinished
    c.in_err-end.ensures.named at)

-- ---- again after the end

pub returns-in_err-token-clause-again : goal.returns-in_err-token-clause-again
returns-in_err-token-clause-again g c = λ ended.
    let now = (c.token.invariant.4 (ended.0, ap is_top c.clear.ensures ∙ ended.1, ended.2, ended.3)).0 in
    absurd (not_ok _ (c.in_err-token.ensures.again now.0).0)

pub returns-clause-again : goal.returns-clause-again
returns-clause-again g c = λ ended.
    let (now, same) = c.token.invariant.4 (ended.0, ap is_top c.clear.ensures ∙ ended.1, ended.2, ended.3) in
    (refl, (c.in_ok-token.ensures.again now.0).1 ∙ same)

-- ---- nothing is nested too deep

pub returns-then-branch-clause-nested : goal.returns-then-branch-clause-nested
returns-then-branch-clause-nested g c = λ ready deep.
    let (linked, (ts, reads, leads, goes, shallow)) = c.token.invariant.1 (record { linked = ready.linked; idle = c.clear.ensures ∙ ready.idle }) in
    let start = text_left c.args.self.now (g.S.Read.remaining c.args.source.now) in
    let t = token_of c.next_token.new.leaf c.in-Some.token in
    let f = form_read c.take.new.self in
    let token = rw c.in-Some.is at (c.in_ok-token.ensures.token linked) in
    let read = form_is_read c.args.self.now.stage c.token.self.stage c.take.new.self.stage ts t _ _ _ f
    (ap (λ done. made_if done c.take.new.self.builder) c.if-branch.true) leads c.in_ok-take.ensures.takes in
    form_shallow c.args.self.now.stage start _ ts t f shallow.1 (reads_more start _ _ ts t reads token) read.0 deep

pub returns-in_err-token-clause-nested : goal.returns-in_err-token-clause-nested
returns-in_err-token-clause-nested g c = λ ready deep.
    let (linked, (ts, reads, leads, goes, shallow)) = c.token.invariant.1 (record { linked = ready.linked; idle = c.clear.ensures ∙ ready.idle }) in
    let p = err_from_is_err_and c.from_residual.result c.from_residual.ensures.1 in
    rw (p.1, p.2) (λ of_text. end_shallow c.args.self.now.stage _ _ ts shallow.1 reads (c.in_err-token.ensures.refused linked of_text) deep)

pub returns-in_err-take-clause-nested : goal.returns-in_err-take-clause-nested
returns-in_err-take-clause-nested g c = λ ready deep.
    let (linked, (ts, reads, leads, goes, shallow)) = c.token.invariant.1 (record { linked = ready.linked; idle = c.clear.ensures ∙ ready.idle }) in
    let start = text_left c.args.self.now (g.S.Read.remaining c.args.source.now) in
    let t = token_of c.next_token.new.leaf c.in-Some.token in
    let token = rw c.in-Some.is at (c.in_ok-token.ensures.token linked) in
    let p = err_from_is_err_and c.from_residual-in_err-take.result c.from_residual-in_err-take.ensures.1 in
    rw (p.1, p.2) (refused_shallow c.args.self.now.stage c.token.self.stage start _ ts t _ _ shallow.1 (reads_more start _ _ ts t reads token)
    goes leads c.in_err-take.ensures.stops deep)

pub returns-in_err-end-clause-nested : goal.returns-in_err-end-clause-nested
returns-in_err-end-clause-nested g c = λ ready deep.
    let (linked, (ts, reads, leads, goes, shallow)) = c.token.invariant.1 (record { linked = ready.linked; idle = c.clear.ensures ∙ ready.idle }) in
    let none = rw c.in_default.is at (c.in_ok-token.ensures.none linked) in
    let p = err_from_is_err_and c.from_residual-in_err-end.result c.from_residual-in_err-end.ensures.1 in
    rw (p.1, p.2) (λ _. end_shallow c.args.self.now.stage _ _ ts shallow.1 reads none deep)

pub returns-clause-nested : goal.returns-clause-nested
returns-clause-nested g c = λ ready deep.
    let (linked, (ts, reads, leads, goes, shallow)) = c.token.invariant.1 (record { linked = ready.linked; idle = c.clear.ensures ∙ ready.idle }) in
    let none = rw c.in_default.is at (c.in_ok-token.ensures.none linked) in
    end_shallow c.args.self.now.stage _ _ ts shallow.1 reads none deep

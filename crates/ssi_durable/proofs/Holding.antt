-- Which replies wait after more calls, if only `committed` does.
use Rattle.std.proofs.Common.{◌≡◌, ◌≢◌, ℕ, ◌-◌, Bool, true, false, cond, Option, Some, None, List, [], ◌∷◌, ◌++◌, length, take, refl, sym, ◌∙◌, ap, subst, arith, length-append}
use Rattle.std.specs.Prelude.{◌==◌, ◌||◌}
use Rattle.std.specs.Option.{option_map}
use Rattle.std.proofs.lemmas.Bool.{false≢true, eq-eqb}
use Rattle.std.proofs.lemmas.Bool.Decides.{nat_tests}
use Rattle.std.proofs.lemmas.Grind.{flat_map-append}
use Rattle.std.proofs.lemmas.List.{append-nil, append_assoc, append_cancel_left, take-append-le}
use Rattle.std.proofs.Math.Seq.{take-length}
use Rattle.adya_keys.specs.Meaning.Keys.{Bytes}
use Rattle.ssi_line.specs.Meaning.Steps.{Step, step_text, steps_text}
use Rattle.ssi_hub.specs.Clauses.Calls.{Call, Opened, Received, Ran, Wrote, Closed, steps_of, written_to}
use Rattle.ssi_durable.specs.declared.holds.Holds.{Holds}
use Rattle.ssi_durable.specs.Meaning.Early.{IsToldEarly, is_committed, free, waits}
use Rattle.ssi_durable.specs.Mirror.Holds.{HasHeld, all_wait, free_in, front_by, held_with}
use Rattle.ssi_durable.specs.Clauses.Holding.{IsHeld, AreHeld}
use Rattle.ssi_durable.proofs.Free.{free_append, waits_append, parted}

pub text_append : (a b : List Step) → steps_text (a ++ b) ≡ steps_text a ++ steps_text b
text_append a b = flat_map-append step_text a b

same_number : (a b : ℕ) → (a == b) ≡ true → a ≡ b
same_number a b e = grind (arith, nat_tests, e)

if_append : (b : Bool) (done more steps : List Step) → done ≡ more ++ steps → (s : List Step)
    → cond b (done ++ s) done ≡ more ++ cond b (steps ++ s) steps
if_append true done more steps e s = ap (λ (l : List Step). l ++ s) e ∙ append_assoc more steps s
if_append false done more steps e s = e

pub steps_of_append : (t : ℕ) (a b : List Call) → steps_of t (a ++ b) ≡ steps_of t b ++ steps_of t a
steps_of_append t [] b = sym (append-nil (steps_of t b))
steps_of_append t (Ran u lines steps ∷ a) b =
    if_append (u == t) (steps_of t (a ++ b)) (steps_of t b) (steps_of t a) (steps_of_append t a b) steps
steps_of_append t (Opened u ∷ a) b = steps_of_append t a b
steps_of_append t (Received u bytes ∷ a) b = steps_of_append t a b
steps_of_append t (Wrote u bytes ∷ a) b = steps_of_append t a b
steps_of_append t (Closed u ∷ a) b = steps_of_append t a b

-- ---- what was told, with more steps

more_text : (w : Bool) (more : List Step) → Bytes
more_text w more = steps_text (cond w [] (free more))

pub told_more : (t : ℕ) (sure recent made : List Call) (more : List Step) → steps_of t (made ++ recent) ≡ steps_of t recent ++ more
    → written_to t (made ++ (recent ++ sure)) ≡ written_to t (recent ++ sure) → IsToldEarly t sure recent
    → IsToldEarly t sure (made ++ recent)
told_more t sure recent made more steps written was =
    let r = steps_of t recent in
    let extra = cond (waits r) [] (free more) in
    record {
      unwritten = was.unwritten ++ steps_text extra;
      told =
          ap (λ (ss : List Step). steps_text (steps_of t sure ++ free ss)) steps
          ∙ ap (λ (ss : List Step). steps_text (steps_of t sure ++ ss)) (free_append r more)
          ∙ ap steps_text (sym (append_assoc (steps_of t sure) (free r) extra))
          ∙ text_append (steps_of t sure ++ free r) extra
          ∙ ap (λ (l : Bytes). l ++ steps_text extra) was.told
          ∙ append_assoc (written_to t (recent ++ sure)) was.unwritten (steps_text extra)
          ∙ ap (λ (l : Bytes). l ++ (was.unwritten ++ steps_text extra))
          (sym (ap (λ (cs : List Call). written_to t cs) (append_assoc made recent sure) ∙ written));
    }

-- nothing more was done for the connection
pub held_still : (all : Bool) (hold : Option ℕ) (t : ℕ) (sure recent made : List Call) → steps_of t (made ++ recent) ≡ steps_of t recent
    → written_to t (made ++ (recent ++ sure)) ≡ written_to t (recent ++ sure) → IsHeld all hold t sure recent
    → IsHeld all hold t sure (made ++ recent)
held_still all hold t sure recent made steps written was = record {
  told = record {
    unwritten = was.told.unwritten;
    told =
        ap (λ (ss : List Step). steps_text (steps_of t sure ++ free ss)) steps ∙ was.told.told
        ∙ ap (λ (l : Bytes). l ++ was.told.unwritten)
        (sym (ap (λ (cs : List Call). written_to t cs) (append_assoc made recent sure) ∙ written));
  };
  free_is = λ e. was.free_is e
      ∙ ap (λ (ss : List Step). cond (waits ss) (Some (length was.told.unwritten)) None) (sym steps);
}

-- one step more of the connection
held_by : (w c : Bool) (u extra : Bytes) (free now : Option ℕ) (before : ℕ) → free ≡ cond w (Some (length u)) None
    → now ≡ cond c (held_with free before) free → (w ≡ false → before ≡ length u) → (cond w true c ≡ true → extra ≡ [])
    → now ≡ cond (w || (c || false)) (Some (length (u ++ extra))) None
held_by true true u extra free now before was is at none =
    is ∙ ap (λ (o : Option ℕ). held_with o before) was
    ∙ ap (λ (l : Bytes). Some (length l)) (sym (ap (λ (l : Bytes). u ++ l) (none refl) ∙ append-nil u))
held_by true false u extra free now before was is at none =
    is ∙ was ∙ ap (λ (l : Bytes). Some (length l)) (sym (ap (λ (l : Bytes). u ++ l) (none refl) ∙ append-nil u))
held_by false true u extra free now before was is at none =
    is ∙ ap (λ (o : Option ℕ). held_with o before) was ∙ ap Some (at refl)
    ∙ ap (λ (l : Bytes). Some (length l)) (sym (ap (λ (l : Bytes). u ++ l) (none refl) ∙ append-nil u))
held_by false false u extra free now before was is at none = is ∙ was

no_extra : (w c : Bool) (s : Step) → cond w true c ≡ true → steps_text (cond w [] (cond c [] (s ∷ []))) ≡ []
no_extra true c s e = refl
no_extra false true s e = refl
no_extra false false s e = absurd (false≢true e)

module _ (old new : Holds) (t before : ℕ) (s : Step) where
  -- `before` bytes are unsent before the reply to the step, if none waits
  held_own : (sure recent made : List Call) → steps_of t (made ++ recent) ≡ steps_of t recent ++ (s ∷ [])
      → written_to t (made ++ (recent ++ sure)) ≡ written_to t (recent ++ sure)
      → (was : IsHeld (all_wait old) (free_in old t) t sure recent)
      → (all_wait new ≡ false → HasHeld t before (is_committed s) old new
      × (waits (steps_of t recent) ≡ false → before ≡ length was.told.unwritten))
      → IsHeld (all_wait new) (free_in new t) t sure (made ++ recent)
  unfolding told_more
  held_own sure recent made steps written was held = record {
    told = told_more t sure recent made (s ∷ []) steps written was.told;
    free_is = λ e.
        let (has, at) = held e in
        let w = waits (steps_of t recent) in
        let extra = steps_text (cond w [] (cond (is_committed s) [] (s ∷ []))) in
        held_by w (is_committed s) was.told.unwritten extra (free_in old t) (free_in new t) before (was.free_is (has.was e)) (has.own e) at
        (no_extra w (is_committed s) s)
        ∙ ap (λ (b : Bool). cond b (Some (length (was.told.unwritten ++ extra))) None)
        (sym (ap waits steps ∙ waits_append (steps_of t recent) (s ∷ [])));
  }

  held_other : (u : ℕ) → u ≢ t → (sure recent made : List Call) → steps_of u (made ++ recent) ≡ steps_of u recent
      → written_to u (made ++ (recent ++ sure)) ≡ written_to u (recent ++ sure)
      → (all_wait new ≡ false → HasHeld t before (is_committed s) old new)
      → (was : IsHeld (all_wait old) (free_in old u) u sure recent)
      → IsHeld (all_wait new) (free_in new u) u sure (made ++ recent)
  held_other u apart sure recent made steps written held was =
      let now = held_still (all_wait old) (free_in old u) u sure recent made steps written was in record {
        told = now.told;
        free_is = λ e. (held e).others e u apart ∙ now.free_is ((held e).was e);
      }

  -- the step was that of the connection t
  pub held_step : (sure since made rest : List Call) → (was : AreHeld old sure since rest)
      → ((u : ℕ) (cs : List Call) → steps_of u (made ++ cs) ≡ steps_of u cs ++ cond (t == u) (s ∷ []) [])
      → ((cs : List Call) (u : ℕ) → written_to u (made ++ cs) ≡ written_to u cs)
      → (all_wait new ≡ false → HasHeld t before (is_committed s) old new
      × (waits (steps_of t was.recent) ≡ false → before ≡ length (was.each t).told.unwritten))
      → AreHeld new sure (made ++ since) rest
  held_step sure since made rest was steps written held = record {
    recent = made ++ was.recent;
    cut = ap (λ (cs : List Call). made ++ cs) was.cut ∙ sym (append_assoc made was.recent sure);
    each = λ u. by_token u (t == u) refl;
  }
    where
      by_token : (u : ℕ) (b : Bool) → (t == u) ≡ b → IsHeld (all_wait new) (free_in new u) u (sure ++ rest) (made ++ was.recent)
      by_token u true e =
          let same : t ≡ u = same_number t u e in
          subst (λ (v : ℕ). IsHeld (all_wait new) (free_in new v) v (sure ++ rest) (made ++ was.recent)) same
          (held_own (sure ++ rest) was.recent made
          (steps t was.recent ∙ ap (λ (b : Bool). steps_of t was.recent ++ cond b (s ∷ []) []) (eq-eqb t t refl))
          (written (was.recent ++ (sure ++ rest)) t) (was.each t) held)
      by_token u false e =
          held_other u (λ same. absurd (false≢true (sym e ∙ eq-eqb t u (sym same)))) (sure ++ rest) was.recent made
          (steps u was.recent ∙ ap (λ (b : Bool). steps_of u was.recent ++ cond b (s ∷ []) []) e ∙ append-nil (steps_of u was.recent))
          (written (was.recent ++ (sure ++ rest)) u) (λ a. (held a).0) (was.each u)

-- which replies wait after a step of the connection, `before` bytes after the beginning of what is unsent
pub record Grown (old new : Holds) (t : ℕ) (s : Step) (sure since rest : List Call) (was : AreHeld old sure since rest) : Type 0 where
  pub before : ℕ
  pub held : all_wait new ≡ false → HasHeld t before (is_committed s) old new
      × (waits (steps_of t was.recent) ≡ false → before ≡ length (was.each t).told.unwritten)

-- ---- what is unsent begins with what isn't written and doesn't wait

pub record Begins (unsent : Bytes) (all : Bool) (hold : Option ℕ) (t : ℕ) (sure recent : List Call) (was : IsHeld all hold t sure recent)
    : Type 0 where
  pub rest : Bytes
  pub parts : unsent ≡ was.told.unwritten ++ rest
  pub none : waits (steps_of t recent) ≡ false → rest ≡ []

pub begins : (unsent : Bytes) (all : Bool) (hold : Option ℕ) (t : ℕ) (sure recent : List Call) (was : IsHeld all hold t sure recent)
    → steps_text (steps_of t (recent ++ sure)) ≡ written_to t (recent ++ sure) ++ unsent
    → Begins unsent all hold t sure recent was
begins unsent all hold t sure recent was replies =
    let p = parted (steps_of t recent) in
    let d = steps_of t sure in
    let f = free (steps_of t recent) in
    let w = written_to t (recent ++ sure) in record {
      rest = steps_text p.rest;
      parts =
          append_cancel_left w unsent (was.told.unwritten ++ steps_text p.rest)
          (sym replies ∙ ap steps_text (steps_of_append t recent sure) ∙ ap (λ (ss : List Step). steps_text (d ++ ss)) p.parts
          ∙ ap steps_text (sym (append_assoc d f p.rest)) ∙ text_append (d ++ f) p.rest
          ∙ ap (λ (l : Bytes). l ++ steps_text p.rest) was.told.told ∙ append_assoc w was.told.unwritten (steps_text p.rest));
      none = λ e. ap steps_text (p.none e);
    }

-- that front is what may be given out, unless all wait
front_if : (w : Bool) (u rest unsent : Bytes) → unsent ≡ u ++ rest → (w ≡ false → rest ≡ [])
    → front_by false (cond w (Some (length u)) None) unsent ≡ u
front_if true u rest unsent parts none =
    ap (take (length u)) parts ∙ take-append-le (length u) u rest (omega arith) ∙ take-length u
front_if false u rest unsent parts none = parts ∙ ap (λ (l : Bytes). u ++ l) (none refl) ∙ append-nil u

pub front_is : (unsent : Bytes) (hold : Option ℕ) (t : ℕ) (sure recent : List Call) (was : IsHeld false hold t sure recent)
    → Begins unsent false hold t sure recent was → front_by false hold unsent ≡ was.told.unwritten
front_is unsent hold t sure recent was b =
    ap (λ (o : Option ℕ). front_by false o unsent) (was.free_is refl)
    ∙ front_if (waits (steps_of t recent)) was.told.unwritten b.rest unsent b.parts b.none

-- ---- something was written to a connection

less_nothing : (o : Option ℕ) → option_map (λ n. n - 0) o ≡ o
less_nothing None = refl
less_nothing (Some n) = ap Some (omega arith)

less_by : (w : Bool) (count : ℕ) (u bytes left : Bytes) → u ≡ bytes ++ left → length bytes ≡ count
    → option_map (λ n. n - count) (cond w (Some (length u)) None) ≡ cond w (Some (length left)) None
less_by true count u bytes left parts same =
    ap Some (omega (arith, ap (λ (l : Bytes). length l) parts, length-append bytes left, same))
less_by false count u bytes left parts same = refl

module _ (old new : Holds) (t count : ℕ) (was_none : all_wait new ≡ false → all_wait old ≡ false)
    (own : all_wait new ≡ false → free_in new t ≡ option_map (λ n. n - count) (free_in old t))
    (others : all_wait new ≡ false → (u : ℕ) → u ≢ t → free_in new u ≡ free_in old u)
    (sure since rest : List Call) (was : AreHeld old sure since rest) where
  -- to a connection that is closed: nothing
  pub wrote_nothing : count ≡ 0 → AreHeld new sure since rest
  wrote_nothing none = record {
    recent = was.recent;
    cut = was.cut;
    each = λ u. record {
      told = (was.each u).told;
      free_is = λ e. by_token u e (t == u) refl ∙ (was.each u).free_is (was_none e);
    };
  }
    where
      by_token : (u : ℕ) → all_wait new ≡ false → (b : Bool) → (t == u) ≡ b → free_in new u ≡ free_in old u
      by_token u all true e =
          subst (λ (v : ℕ). free_in new v ≡ free_in old v) (same_number t u e)
          (own all ∙ ap (λ (c : ℕ). option_map (λ n. n - c) (free_in old t)) none ∙ less_nothing (free_in old t))
      by_token u all false e = others all u (λ same. absurd (false≢true (sym e ∙ eq-eqb t u (sym same))))

  -- these bytes, to one that is open
  pub wrote_some : (bytes left : Bytes) → length bytes ≡ count → (was.each t).told.unwritten ≡ bytes ++ left
      → AreHeld new sure (Wrote t bytes ∷ since) rest
  wrote_some bytes left same parts = record {
    recent = Wrote t bytes ∷ was.recent;
    cut = ap (λ (cs : List Call). Wrote t bytes ∷ cs) was.cut;
    each = λ u. by_token u (t == u) refl;
  }
    where
      done : List Call
      done = was.recent ++ (sure ++ rest)

      to_own : IsHeld (all_wait new) (free_in new t) t (sure ++ rest) (Wrote t bytes ∷ was.recent)
      to_own = record {
        told = record {
          unwritten = left;
          told =
              (was.each t).told.told ∙ ap (λ (l : Bytes). written_to t done ++ l) parts
              ∙ sym (append_assoc (written_to t done) bytes left)
              ∙ ap (λ (b : Bool). cond b (written_to t done ++ bytes) (written_to t done) ++ left) (sym (eq-eqb t t refl));
        };
        free_is = λ e.
            own e ∙ ap (λ (o : Option ℕ). option_map (λ n. n - count) o) ((was.each t).free_is (was_none e))
            ∙ less_by (waits (steps_of t was.recent)) count (was.each t).told.unwritten bytes left parts same;
      }

      by_token : (u : ℕ) (b : Bool) → (t == u) ≡ b → IsHeld (all_wait new) (free_in new u) u (sure ++ rest) (Wrote t bytes ∷ was.recent)
      by_token u true e =
          subst (λ (v : ℕ). IsHeld (all_wait new) (free_in new v) v (sure ++ rest) (Wrote t bytes ∷ was.recent)) (same_number t u e) to_own
      by_token u false e = record {
        told = record {
          unwritten = (was.each u).told.unwritten;
          told =
              (was.each u).told.told
              ∙ ap (λ (b : Bool). cond b (written_to u done ++ bytes) (written_to u done) ++ (was.each u).told.unwritten) (sym e);
        };
        free_is = λ all.
            others all u (λ same. absurd (false≢true (sym e ∙ eq-eqb t u (sym same)))) ∙ (was.each u).free_is (was_none all);
      }

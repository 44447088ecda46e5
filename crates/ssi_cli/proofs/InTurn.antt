-- Connections that are served one after the other.
use Rattle.std.proofs.Common.{◌≡◌, ◌≢◌, ℕ, suc, ◌+◌, arith, Bool, List, [], ◌∷◌, Option, inl, inr, length, refl, sym, subst, ◌∙◌}
use Rattle.devices.specs.declared.watched.Watched.{Watched}
use Rattle.ssi_store.specs.Meaning.Courses.{Course}
use Rattle.ssi_line.specs.Clauses.Ends.{WentOn}
use Rattle.ssi_line.specs.declared.end.End.TheVariants.{Stop}
use Rattle.ssi_cli.specs.declared.socket.Served.{Served}
use Rattle.ssi_cli.specs.declared.socket.Served.TheVariants.{Stopped, SocketFault}
use Rattle.ssi_cli.specs.Clauses.Connections.{Connection, InTurn, Follow, steps_of}
use Rattle.ssi_cli.specs.Machinery.InTurn.{SoFar}
use Rattle.ssi_cli.proofs.ScriptRuns.{went_on_both}

grown : (n count : ℕ) → n ≡ count → suc n ≡ count + 1
grown n count same = omega arith

module _ {L R W T : Type 0} (remaining : R → Option (List ℕ)) (is_failed : R → Bool) (contents : W → Option (List ℕ))
    (accepts closes : L → R → Watched W → L → Type 0) (fails : L → L → Type 0) (is_at : T → Course → Type 0)
    (first : L) (store : T) where
  abbrev Sofar : L → T → ℕ → Type 0
  Sofar now after count = SoFar remaining is_failed contents accepts closes is_at first store now after count

  abbrev One : Type 0
  One = Connection remaining is_failed contents accepts closes

  abbrev Ended : L → T → Served → Type 0
  Ended now after served =
      (turns : InTurn remaining is_failed contents accepts closes fails first now served)
      × WentOn is_at store (steps_of turns.connections) after

  pub none_yet : Sofar first store 0
  none_yet = ([], refl, tt, refl, λ course at. (tt, at))

  follow_on : (now next : L) (cs : List One) (c : One) → Follow first cs now → c.before ≡ now → next ≡ c.after
      → Follow first (c ∷ cs) next
  follow_on now next cs c follow before after = (subst (λ l. Follow first cs l) (sym before) follow, after)

  pub one_more : (now next : L) (mid after : T) (count : ℕ) → Sofar now mid count → (c : One)
      → c.end ≢ Stop → c.before ≡ now → next ≡ c.after → WentOn is_at mid c.steps after → Sofar next after (count + 1)
  one_more now next mid after count so c goes_on before next_is went_on =
      let (cs, follow, none, is, went) = so in (
        c ∷ cs,
        follow_on now next cs c follow before next_is,
        (goes_on, none),
        grown (length cs) count is,
        went_on_both is_at store mid after (steps_of cs) c.steps went went_on,
      )

  pub stopped : (now next : L) (mid after : T) (count : ℕ) → Sofar now mid count → (c : One)
      → c.end ≡ Stop → c.before ≡ now → next ≡ c.after → WentOn is_at mid c.steps after → Ended next after Stopped
  stopped now next mid after count so c stops before next_is went_on =
      let (cs, follow, none, is, went) = so in (
        record {
          connections = c ∷ cs;
          after = next;
          follow = follow_on now next cs c follow before next_is;
          ends = (stops, none, refl);
        },
        went_on_both is_at store mid after (steps_of cs) c.steps went went_on,
      )

  pub failed : (now next : L) (mid after : T) (count : ℕ) → Sofar now mid count → fails now next → after ≡ mid
      → Ended next after SocketFault
  failed now next mid after count so fails_so same =
      let (cs, follow, none, is, went) = so in (
        record { connections = cs; after = now; follow = follow; ends = (none, inl fails_so) },
        subst (λ t. WentOn is_at store (steps_of cs) t) (sym same) went,
      )

  pub full : (now : L) (after : T) (count : ℕ) → Sofar now after count → count ≡ 4294967295 → Ended now after SocketFault
  full now after count so most =
      let (cs, follow, none, is, went) = so in (
        record { connections = cs; after = now; follow = follow; ends = (none, inr (is ∙ most, refl)) },
        went,
      )

-- The events of a course that is over.
use Rattle.std.proofs.Common.{List, [], ap, arith, cond, filter, inl, inr, map, refl, subst, sym, true, ℕ, ◌++◌, ◌∙◌, ◌∷◌, ◌≡◌}
use Rattle.std.proofs.lemmas.Bool.{cases_Bool, ne_eqb}
use Rattle.std.proofs.lemmas.List.{append-nil, append_assoc}
use Rattle.adya_values.specs.Computing.Shapes.{numbers_rise}
use Rattle.adya_values.specs.Meaning.Histories.{Event, History, Abort as Ended}
use Rattle.adya_values.specs.declared.edition.Edition.TheVariants.{One, Two}
use Rattle.snapshot_histories.specs.Clauses.Snapshots.{IsSafe}
use Rattle.ssi_conflict.specs.Clauses.Pairs.{IsOrderedPivot}
use Rattle.ssi_recorder.specs.Meaning.Recorded.{history_of_events}
use Rattle.ssi_store.specs.Meaning.Acts.{Aborts, Act, acts, is_open, open_txns, begun}
use Rattle.ssi_store.specs.Meaning.Courses.{Course}
use Rattle.ssi_store.specs.Meaning.Recording.{dumped, events}
use Rattle.ssi_store.specs.Clauses.Finished.{close, finished}
use Rattle.ssi_store.specs.Clauses.Coverage.{snapshot_in, snapshots, IsCovered}
use Rattle.ssi_store.specs.Meaning.Seeing.{snapshot}
use Rattle.ssi_store.specs.Mirror.Standing.{Parts, StandsFor}
use Rattle.ssi_store.specs.Machinery.Opens.{Sessions}
use Rattle.ssi_store.proofs.Collects.{first_halves}
use Rattle.ssi_store.proofs.Lists.{filter_within}
use Rattle.adya_values.proofs.RisingNumbers.{number_below, numbers_rise-tail}
use Rattle.ssi_store.proofs.Snapshots.{begun_rise}
use Rattle.ssi_store.proofs.Steps.{settled, same_course}

close_events : (ts : List ℕ) (log : List Act) → numbers_rise ts ≡ true
    → events (close ts log) ≡ events log ++ map Ended (filter (λ t. is_open t log) ts)
close_events [] log r = sym (append-nil (events log))
close_events (t ∷ ts) log r = elim (cases_Bool (is_open t log)) [
  | inl holds ↦
      let others = filter_within (λ u. is_open u (Aborts t ∷ log)) (λ u. is_open u log) ts
      (λ u c. rw (ne_eqb t u (λ s. let less = number_below t ts u r c in omega (arith, s, less))) refl) in
      ap (λ b. events (close ts (cond b (Aborts t ∷ log) log))) holds
      ∙ close_events ts (Aborts t ∷ log) (numbers_rise-tail t ts r)
      ∙ append_assoc (events log) (Ended t ∷ []) (map Ended (filter (λ u. is_open u (Aborts t ∷ log)) ts))
      ∙ ap (λ l. events log ++ Ended t ∷ map Ended l) others
      ∙ ap (λ b. events log ++ map Ended (cond b (t ∷ filter (λ u. is_open u log) ts) (filter (λ u. is_open u log) ts)))
      (sym holds)
  | inr fails ↦
      ap (λ b. events (close ts (cond b (Aborts t ∷ log) log))) fails
      ∙ close_events ts log (numbers_rise-tail t ts r)
      ∙ ap (λ b. events log ++ map Ended (cond b (t ∷ filter (λ u. is_open u log) ts) (filter (λ u. is_open u log) ts)))
      (sym fails)
]

-- a history of the course is safe by the snapshots of the course, whatever they are called
pub safe_by : (c : Course) (h g : History) (ss : List (ℕ × ℕ)) → h ≡ g → ss ≡ snapshots c → IsCovered IsOrderedPivot c g
    → IsSafe h (snapshot_in ss)
safe_by c h g ss is since covered =
    subst (λ x. IsSafe x (snapshot_in ss)) (sym is) (subst (λ l. IsSafe g (snapshot_in l)) (sym since) covered.safe)

module _ {p : Parts} {next : ℕ} {es : Sessions} {c : Course} (st : StandsFor p next es c) where
  open_are : (ts : List ℕ) → ts ≡ map (λ (e : ℕ × ℕ). e.0) p.opened → ts ≡ open_txns (acts c)
  open_are ts are = are ∙ ap (map (λ (e : ℕ × ℕ). e.0)) st.log.opened
      ∙ first_halves (λ t. snapshot t (acts c)) (open_txns (acts c))

  pub finishes : (past : List Event) (ts : List ℕ) (h : History) → past ≡ events (acts c)
      → ts ≡ map (λ (e : ℕ × ℕ). e.0) p.opened → h ≡ history_of_events One [] (past ++ map Ended ts) → h ≡ finished c
  finishes past ts h told are is = is
      ∙ ap (λ l. history_of_events One [] (l ++ map Ended ts)) told
      ∙ ap (λ l. history_of_events One [] (events (acts c) ++ map Ended l)) (open_are ts are)
      ∙ ap (history_of_events One [])
      (sym (close_events (begun (acts c)) (acts c) (begun_rise (acts c) (settled st).sound)))

  pub dumps : (past : List Event) (ts : List ℕ) (h : History) → past ≡ events (acts c)
      → ts ≡ map (λ (e : ℕ × ℕ). e.0) p.opened → h ≡ history_of_events Two ts past → h ≡ dumped c
  dumps past ts h told are is = is
      ∙ ap (history_of_events Two ts) told
      ∙ ap (λ l. history_of_events Two l (events (acts c))) (open_are ts are)

  -- the store that is handed back stands for the same course
  pub handed_back : (recorded' : List Event → Type 0) → ((es : List Event) → p.recorded es → recorded' es)
      → StandsFor (record p { recorded = recorded' }) next es c
  handed_back recorded' same = same_course st (record p { recorded = recorded' }) (record {
    commits = st.log.commits;
    chains = st.log.chains;
    tracker = st.log.tracker;
    events = same (events (acts c)) st.log.events;
    opened = st.log.opened;
    snapshots = st.log.snapshots;
  })

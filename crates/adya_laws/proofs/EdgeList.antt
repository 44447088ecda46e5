-- The list of edges is the dependencies without repeats.
use Rattle.std.proofs.Common.{◌≡◌, ◌≢◌, ◌⊎◌, Bool, true, false, cond, List, [], ◌∷◌, ◌++◌, get_or, Option, Some, None, refl, sym, ◌∙◌, ap, subst, arith, inl, inr}
use Rattle.std.specs.Prelude.{fold}
use Rattle.std.specs.List.{find, list_any, AllPairs, Contains}
use Rattle.std.specs.Option.{option_or}
use Rattle.std.proofs.lemmas.Bool.{cases_Bool, both_ways}
use Rattle.std.proofs.lemmas.List.Elements.{Contains-append_left, Contains-push_cases, Contains-push}
use Rattle.std.proofs.lemmas.List.Folds.{find-append, list_any_at}
use Rattle.std.proofs.lemmas.List.Quantifiers.{all_pairs_push}
use Rattle.std.proofs.lemmas.Map.Views.{Contains-from_any}
use Rattle.adya_values.specs.Meaning.Histories.{History}
use Rattle.adya_values.specs.Meaning.Edges.{Edge, IsEdge}
use Rattle.adya_values.specs.Computing.EdgeList.{dependencies, edge_eq, with_edge, edge_list}
use Rattle.adya_laws.proofs.Dependencies.{listed_when_edge, edge_when_listed}
use Rattle.lemmas.proofs.Members.{none_contained, Contains-cons, Contains-cases}
use Rattle.adya_values.proofs.EdgeList.{edge_eq-same, edge_eq-from}
use Rattle.lemmas.proofs.Options.{option_or-none}

-- an edge that isn't added is in the list already
pub seen_already : (seen : List Edge) (e : Edge) → list_any (edge_eq e) seen ≡ true → Contains seen e
seen_already seen e t = Contains-from_any edge_eq-same e seen t

pub with_edge-there : (seen : List Edge) (e : Edge) → list_any (edge_eq e) seen ≡ true → with_edge seen e ≡ seen
with_edge-there seen e t = ap (λ b. cond b seen (seen ++ e ∷ [])) t

pub with_edge-new : (seen : List Edge) (e : Edge) → list_any (edge_eq e) seen ≡ false
    → with_edge seen e ≡ seen ++ e ∷ []
with_edge-new seen e t = ap (λ b. cond b seen (seen ++ e ∷ [])) t

pub Contains-with_edge : (seen : List Edge) (e x : Edge) → Contains seen x ⊎ (e ≡ x) → Contains (with_edge seen e) x
Contains-with_edge seen e x (inl c) =
    elim (cases_Bool (list_any (edge_eq e) seen)) [
      | inl t ↦ subst (λ xs. Contains xs x) (sym (with_edge-there seen e t)) c
      | inr f ↦ subst (λ xs. Contains xs x) (sym (with_edge-new seen e f)) (Contains-append_left seen (e ∷ []) x c)
    ]
Contains-with_edge seen e x (inr s) =
    elim (cases_Bool (list_any (edge_eq e) seen)) [
      | inl t ↦ subst (λ xs. Contains xs x) (sym (with_edge-there seen e t))
          (subst (Contains seen) s (seen_already seen e t))
      | inr f ↦ subst (λ xs. Contains xs x) (sym (with_edge-new seen e f))
          (subst (Contains (seen ++ e ∷ [])) s (Contains-push seen e))
    ]

pub with_edge-source : (seen : List Edge) (e x : Edge) → Contains (with_edge seen e) x → Contains seen x ⊎ (e ≡ x)
with_edge-source seen e x c =
    elim (cases_Bool (list_any (edge_eq e) seen)) [
      | inl t ↦ inl (subst (λ xs. Contains xs x) (with_edge-there seen e t) c)
      | inr f ↦ Contains-push_cases seen e x (subst (λ xs. Contains xs x) (with_edge-new seen e f) c)
    ]

pub Contains-fold : (seen es : List Edge) (x : Edge) → Contains seen x ⊎ Contains es x
    → Contains (fold with_edge seen es) x
Contains-fold seen [] x (inl c) = c
Contains-fold seen [] x (inr c) = absurd (none_contained x c)
Contains-fold seen (e ∷ es) x (inl c) = Contains-fold (with_edge seen e) es x
    (inl (Contains-with_edge seen e x (inl c)))
Contains-fold seen (e ∷ es) x (inr c) =
    elim (Contains-cases e es x c) [
      | inl s ↦ Contains-fold (with_edge seen e) es x (inl (Contains-with_edge seen e x (inr s)))
      | inr r ↦ Contains-fold (with_edge seen e) es x (inr r)
    ]

pub fold-source : (seen es : List Edge) (x : Edge) → Contains (fold with_edge seen es) x
    → Contains seen x ⊎ Contains es x
fold-source seen [] x c = inl c
fold-source seen (e ∷ es) x c =
    elim (fold-source (with_edge seen e) es x c) [
      | inl d ↦
          (elim (with_edge-source seen e x d) [
            | inl s ↦ inl s
            | inr s ↦ inr (0, omega arith, s)
          ])
      | inr d ↦ inr (Contains-cons e es x d)
    ]

pub with_edge-distinct : (seen : List Edge) (e : Edge) → AllPairs (λ a b. a ≢ b) seen
    → AllPairs (λ a b. a ≢ b) (with_edge seen e)
with_edge-distinct seen e apart =
    elim (cases_Bool (list_any (edge_eq e) seen)) [
      | inl t ↦ subst (AllPairs (λ a b. a ≢ b)) (sym (with_edge-there seen e t)) apart
      | inr f ↦
          subst (AllPairs (λ a b. a ≢ b)) (sym (with_edge-new seen e f))
          (all_pairs_push (λ a b. a ≢ b) seen e apart
          (λ k d l s. both_ways _ f (list_any_at (edge_eq e) seen k d l (edge_eq-from e (get_or seen k d) (sym s)))))
    ]

pub fold-distinct : (seen es : List Edge) → AllPairs (λ a b. a ≢ b) seen
    → AllPairs (λ a b. a ≢ b) (fold with_edge seen es)
fold-distinct seen [] apart = apart
fold-distinct seen (e ∷ es) apart = fold-distinct (with_edge seen e) es (with_edge-distinct seen e apart)

-- what a search finds first
pub find_there : {X : Type 0} (p : X → Bool) (xs : List X) (x : X) → Contains xs x → p x ≡ true → (o : Option X)
    → option_or (find p xs) o ≡ find p xs
find_there p [] x c t o = absurd (none_contained x c)
find_there p (y ∷ xs) x c t o =
    elim (cases_Bool (p y)) [
      | inl now ↦ subst (λ b. option_or (cond b (Some y) (find p xs)) o ≡ cond b (Some y) (find p xs)) (sym now) refl
      | inr later ↦
          (elim (Contains-cases y xs x c) [
            | inl s ↦ absurd (both_ways _ later (ap p s ∙ t))
            | inr r ↦ subst (λ b. option_or (cond b (Some y) (find p xs)) o ≡ cond b (Some y) (find p xs)) (sym later)
                (find_there p xs x r t o)
          ])
    ]

pub option_or-assoc : {X : Type 0} (a b c : Option X) → option_or (option_or a b) c ≡ option_or a (option_or b c)
option_or-assoc None b c = refl
option_or-assoc (Some x) b c = refl

pub option_or-cond : {X : Type 0} (b : Bool) (x : X) (o : Option X)
    → option_or (cond b (Some x) None) o ≡ cond b (Some x) o
option_or-cond true x o = refl
option_or-cond false x o = refl

pub find_with_edge : (p : Edge → Bool) (seen : List Edge) (e : Edge) (o : Option Edge)
    → option_or (find p (with_edge seen e)) o ≡ option_or (find p seen) (cond (p e) (Some e) o)
find_with_edge p seen e o =
    elim (cases_Bool (list_any (edge_eq e) seen)) [
      | inl t ↦
          ap (λ xs. option_or (find p xs) o) (with_edge-there seen e t) ∙
          (elim (cases_Bool (p e)) [
            | inl passes ↦
                let at = seen_already seen e t in
                find_there p seen e at passes o ∙ sym (find_there p seen e at passes (cond (p e) (Some e) o))
            | inr fails ↦ ap (λ b. option_or (find p seen) (cond b (Some e) o)) (sym fails)
          ])
      | inr f ↦
          ap (λ xs. option_or (find p xs) o) (with_edge-new seen e f) ∙
          (ap (λ r. option_or r o) (find-append p seen (e ∷ [])) ∙
          (option_or-assoc (find p seen) (cond (p e) (Some e) None) o ∙
          ap (option_or (find p seen)) (option_or-cond (p e) e o)))
    ]

pub find_fold : (p : Edge → Bool) (seen es : List Edge)
    → find p (fold with_edge seen es) ≡ option_or (find p seen) (find p es)
find_fold p seen [] = sym (option_or-none (find p seen))
find_fold p seen (e ∷ es) = find_fold p (with_edge seen e) es ∙ find_with_edge p seen e (find p es)

module _ (h : History) where
  pub edge_listed : (e : Edge) → IsEdge h e → Contains (edge_list h) e
  edge_listed e d = Contains-fold [] (dependencies h) e (inr (listed_when_edge h e.kind e.key e.from e.to d.0 d.1))

  pub listed_edge : (e : Edge) → Contains (edge_list h) e → IsEdge h e
  listed_edge e c =
      elim (fold-source [] (dependencies h) e c) [
        | inl d ↦ absurd (none_contained e d)
        | inr d ↦ edge_when_listed h e d
      ]

  pub edges_distinct : AllPairs (λ a b. a ≢ b) (edge_list h)
  edges_distinct = fold-distinct [] (dependencies h) (λ i j d l m. absurd (omega (arith, m)))

  pub edges_found : (p : Edge → Bool) → find p (edge_list h) ≡ find p (dependencies h)
  edges_found p = find_fold p [] (dependencies h)

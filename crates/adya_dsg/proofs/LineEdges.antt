-- The write dependencies of an order line, by its writers and by the places of its versions.
use Rattle.std.proofs.Common.{◌≡◌, ℕ, zero, suc, ◌+◌, true, List, [], ◌∷◌, ◌++◌, Option, Some, None, option_map, map, flat_map, length, drop, slice_get, refl, sym, ◌∙◌, ap, ◌<◌, ◌≤◌, ◌-◌, take, get_or, arith}
use Rattle.std.proofs.lemmas.List.{take_all, drop_all}
use Rattle.std.proofs.lemmas.Option.{none-some, slice_get_within}
use Rattle.lemmas.proofs.Steps.{turn_at}
use Rattle.adya_keys.specs.Meaning.Keys.{keys_rise}
use Rattle.adya_values.specs.Meaning.Histories.{Order, History}
use Rattle.adya_values.specs.Meaning.Orders.{writers, installer}
use Rattle.adya_values.specs.Meaning.Edges.{Ww, Edge}
use Rattle.adya_values.specs.Computing.EdgeList.{numbers, joined, write_edges}
use Rattle.adya_dsg.specs.Machinery.PartEdges.{line_edges}
use Rattle.adya_terms.specs.Mirror.LineNumbers.{key_of}
use Rattle.adya_dsg.proofs.Lines.{line_told, writers_at}

flat_map-shift : {X : Type 0} (f : ℕ → List X) (a n : ℕ)
    → flat_map f (numbers (suc a) n) ≡ flat_map (λ q. f (suc q)) (numbers a n)
flat_map-shift f a zero = refl
flat_map-shift f a (suc n) = ap (λ xs. f (suc a) ++ xs) (flat_map-shift f (suc a) n)

-- from the writer with q writers before it to the next
abbrev step : List ℕ → List ℕ → ℕ → List Edge
step k ws q = joined Ww k (slice_get ws q) (slice_get ws (suc q))

line_edges-steps : (k ws : List ℕ) → line_edges k ws ≡ flat_map (step k ws) (numbers 0 (length ws))
line_edges-steps k [] = refl
line_edges-steps k (x ∷ ws) =
    ap (λ xs. step k (x ∷ ws) 0 ++ xs)
    (line_edges-steps k ws ∙ sym (flat_map-shift (step k (x ∷ ws)) 0 (length ws)))

pub line_edges-places : (h : History) (k : List ℕ) → line_edges k (writers h k) ≡ write_edges h k
line_edges-places h k =
    line_edges-steps k (writers h k) ∙
    sym (flat_map-shift (λ q. joined Ww k (installer h k q) (installer h k (suc q))) 0 (length (writers h k)))

of_lines : (h : History) (os : List Order)
    → ((i : ℕ) (o : Order) → slice_get os i ≡ Some o → writers h o.key ≡ o.writers)
    → flat_map (λ (o : Order). write_edges h o.key) os ≡ flat_map (λ (o : Order). line_edges o.key o.writers) os
of_lines h [] same = refl
of_lines h (o ∷ os) same =
    ap (λ es. es ++ flat_map (λ (x : Order). write_edges h x.key) os)
    (sym (line_edges-places h o.key) ∙ ap (line_edges o.key) (same 0 o refl)) ∙
    ap (λ es. line_edges o.key o.writers ++ es) (of_lines h os (λ i x e. same (suc i) x e))

-- the write dependencies of a history are those of its lines, if their keys rise
pub write_edges_are : (h : History) → keys_rise (map (λ (o : Order). o.key) h.orders) ≡ true
    → flat_map (λ (o : Order). write_edges h o.key) h.orders
    ≡ flat_map (λ (o : Order). line_edges o.key o.writers) h.orders
write_edges_are h rise =
    of_lines h h.orders
    (λ i o e.
    sym (writers_at h.orders rise i (slice_get_within h.orders i o e) o.writers (ap (option_map (λ (x : Order). x.writers)) e) ∙
    ap (λ x. writers h (key_of x)) e))

-- the edges of the lines from one on, by that line
pub edges_from : (os : List Order) (i : ℕ) (k ws : List ℕ) → option_map (λ (o : Order). o.key) (slice_get os i) ≡ Some k
    → option_map (λ (o : Order). o.writers) (slice_get os i) ≡ Some ws
    → flat_map (λ (o : Order). line_edges o.key o.writers) (drop i os)
    ≡ line_edges k ws ++ flat_map (λ (o : Order). line_edges o.key o.writers) (drop (i + 1) os)
edges_from os i k ws key of =
    ap (flat_map (λ (o : Order). line_edges o.key o.writers)) (turn_at os i _ (line_told (slice_get os i) k ws key of)).rest

key_told : (o : Option Order) (ws : List ℕ) → option_map (λ (x : Order). x.writers) o ≡ Some ws
    → (k : List ℕ) × (option_map (λ (x : Order). x.key) o ≡ Some k)
key_told None ws of = absurd (none-some ws of)
key_told (Some o) ws of = (o.key, refl)

-- the same, if only the writers are told
pub edges_here : (os : List Order) (i : ℕ) (ws : List ℕ) → option_map (λ (o : Order). o.writers) (slice_get os i) ≡ Some ws
    → (k : List ℕ) × (flat_map (λ (o : Order). line_edges o.key o.writers) (drop i os)
    ≡ line_edges k ws ++ flat_map (λ (o : Order). line_edges o.key o.writers) (drop (i + 1) os))
edges_here os i ws of =
    let key = key_told (slice_get os i) ws of in
    (key.0, edges_from os i key.0 ws key.1 of)

-- a line without writers has no edges
pub no_line : (k ws : List ℕ) → length ws < 1 → line_edges k ws ≡ []
no_line k [] l = refl
no_line k (x ∷ ws) l = absurd (omega (arith, l))

-- the line of its first writer and the others
pub first_and_rest : (ws : List ℕ) (x : ℕ) → 1 ≤ length ws → x ≡ get_or ws 0 x → x ∷ take (length ws - 1) (drop 1 ws) ≡ ws
first_and_rest [] x l e = absurd (omega (arith, l))
first_and_rest (y ∷ ws) x l e = ap (λ z. z ∷ take (length (y ∷ ws) - 1) ws) e ∙ ap (λ zs. y ∷ zs) (take_all _ ws (omega arith))

-- no edge leaves the last writer
pub after_last : (k : List ℕ) (last : ℕ) (rest : List ℕ) (i : ℕ) → length rest ≤ i → line_edges k (last ∷ drop i rest) ≡ []
after_last k last rest i l = ap (λ ws. line_edges k (last ∷ ws)) (drop_all i rest l)

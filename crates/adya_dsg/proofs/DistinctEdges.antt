-- The edges that a set keeps in the order in which they came, as the list without repeats.
use Rattle.std.proofs.Common.{◌≡◌, ◌==◌, ◌&&◌, ◌||◌, Bool, true, false, cond, List, [], ◌∷◌, ◌++◌, map, refl, ◌∙◌, ap, Result, Ok, Err, IfOk, Vec, Global}
use Rattle.std.specs.List.{list_any}
use Rattle.std.proofs.lemmas.List.{map-append}
use Rattle.lemmas.proofs.Booleans.{and_regroup}
use Rattle.indexmap.specs.IndexSet.{insert_key}
use Rattle.adya_keys.specs.Meaning.Keys.{key_eq}
use Rattle.adya_values.specs.Meaning.Edges.{Edge}
use Rattle.adya_values.specs.Computing.EdgeList.{kind_eq, edge_eq, with_edge}
use Rattle.adya_dsg.specs.Mirror.{kind_of, edge_of}
use Rattle.adya_dsg.specs.contracts.edge.EdgePartialEq.TheImpl as edges
use Rattle.adya_dsg.specs.contracts.edge.KindPartialEq.TheImpl as kinds
use Rattle.adya_dsg.specs.declared.edge.Kind.{Kind as KindValue}
use Rattle.adya_dsg.specs.declared.edge.Kind.TheVariants as In
use Rattle.adya_dsg.specs.declared.edge.Edge.{Edge as EdgeValue}

abbrev same_kind : KindValue → KindValue → Bool
same_kind = (kinds.ghosts).eq

abbrev same : EdgeValue → EdgeValue → Bool
same = (edges.ghosts).eq

-- kinds are told apart as the plain ones are
same_kind-plain : (a b : KindValue) → same_kind a b ≡ kind_eq (kind_of a) (kind_of b)
same_kind-plain In.Ww In.Ww = refl
same_kind-plain In.Ww In.Wr = refl
same_kind-plain In.Ww In.Rw = refl
same_kind-plain In.Wr In.Ww = refl
same_kind-plain In.Wr In.Wr = refl
same_kind-plain In.Wr In.Rw = refl
same_kind-plain In.Rw In.Ww = refl
same_kind-plain In.Rw In.Wr = refl
same_kind-plain In.Rw In.Rw = refl

-- and so are edges
same-plain : (a b : EdgeValue) → same a b ≡ edge_eq (edge_of a) (edge_of b)
same-plain a b =
    ap (λ k. (a.from == b.from) && (k && (key_eq a.key b.key && (a.to == b.to)))) (same_kind-plain a.kind b.kind) ∙
    and_regroup (a.from == b.from) (kind_eq (kind_of a.kind) (kind_of b.kind)) (key_eq a.key b.key) (a.to == b.to)

any_same-plain : (e : EdgeValue) (ks : List EdgeValue)
    → list_any (same e) ks ≡ list_any (edge_eq (edge_of e)) (map edge_of ks)
any_same-plain e [] = refl
any_same-plain e (k ∷ ks) =
    ap (λ b. b || list_any (same e) ks) (same-plain e k) ∙
    ap (λ b. edge_eq (edge_of e) (edge_of k) || b) (any_same-plain e ks)

push_unless-plain : (b : Bool) (ks : List EdgeValue) (e : EdgeValue)
    → map edge_of (cond b ks (ks ++ e ∷ [])) ≡ cond b (map edge_of ks) (map edge_of ks ++ edge_of e ∷ [])
push_unless-plain true ks e = refl
push_unless-plain false ks e = map-append edge_of ks (e ∷ [])

-- an insertion adds the edge at the end of the list, unless it is there already
pub inserted : (ks : List EdgeValue) (e : EdgeValue)
    → map edge_of (insert_key same ks e) ≡ with_edge (map edge_of ks) (edge_of e)
inserted ks e =
    push_unless-plain (list_any (same e) ks) ks e ∙
    ap (λ b. cond b (map edge_of ks) (map edge_of ks ++ edge_of e ∷ [])) (any_same-plain e ks)

-- the edges of a copy
pub copied : {E : Type 0} (r : Result (Vec EdgeValue Global) E) (ks : List EdgeValue) (es : List Edge)
    → IfOk r (λ v. v.items ≡ ks) → map edge_of ks ≡ es → IfOk r (λ v. map edge_of v.items ≡ es)
copied (Ok v) ks es same plain = ap (map edge_of) same ∙ plain
copied (Err e) ks es same plain = tt

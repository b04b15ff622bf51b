-- Names and types are read the same whatever stands behind.
use Rattle.std.proofs.Common.{◌≡◌, ℕ, zero, suc, ◌+◌, ◌≤◌, Bool, true, false, List, [], ◌∷◌, ◌++◌, length, Option, Some, None, Ok, Err, refl, sym, ap, ◌∙◌, arith}
use Rattle.jr_base.specs.declared.text.Text.{Text}
use Rattle.jr_base.specs.declared.kind.Kind.{Kind}
use Rattle.jr_base.specs.declared.kind.Kind.TheVariants as kind
use Rattle.jr_base.specs.declared.kind.Symbol.TheVariants as y
use Rattle.jr_base.specs.declared.kind.Keyword.TheVariants as k
use Rattle.jr_tree.specs.declared.tree.Primitive.{Primitive}
use Rattle.jr_tree.specs.declared.tree.Base.TheVariants as base
use Rattle.jr_parse_laws.specs.declared.fault.Fault.TheVariants.{NoTree}
use Rattle.jr_parse_laws.specs.Parsers.{first, pure, begins_with, expect, identifier, with_front, ◌>>=◌, ◌>>◌}
use Rattle.jr_parse_laws.proofs.Outcomes.{no_first, one_first}
use Rattle.jr_parse_laws.proofs.Turns.{behind_shortens, expect_keeps, identifier_keeps}
use Rattle.jr_parse_expr.specs.Names.{name_of, type_of, pairs, dims, parts, name_after, name, primitive_kind, primitive_at, base_by, element, type_use, Plain, dotted_from, dotted}
use Rattle.jr_parse_expr.proofs.NameLaws.{dotted_more, dotted_at_dot}
use Rattle.jr_parse_expr.proofs.NameReads.{dotted_end}
use Rattle.jr_parse_expr.proofs.Locals.{Kept, Local, here, along, local_pure, local_bind, local_expect, local_identifier, local_on, Looks, local_many}

module _ (room other : ℕ) (le : room ≤ other) where
  part_local : Local room other le (expect y.Dot >> identifier) (expect y.Dot >> identifier)
  part_local = local_bind room other le (expect y.Dot) (expect y.Dot) (λ u. identifier) (λ u. identifier) (local_expect room other le y.Dot) (λ u. local_identifier room other le)

  parts_local : Local room other le parts parts
  parts_local = local_many room other le (begins_with y.Dot) (expect y.Dot >> identifier) (expect y.Dot >> identifier) refl (behind_shortens y.Dot identifier identifier_keeps) (behind_shortens y.Dot identifier identifier_keeps) part_local

  pub after_local : (head : Text) → Local room other le (name_after head) (name_after head)
  unfolding name_after
  after_local head =
      local_bind room other le (λ ts. with_front (head ∷ []) (parts ts)) (λ ts. with_front (head ∷ []) (parts ts)) (λ all. pure (name_of all)) (λ all. pure (name_of all))
      (local_bind room other le parts parts (λ all. pure ((head ∷ []) ++ all)) (λ all. pure ((head ∷ []) ++ all)) parts_local (λ all. local_pure room other le ((head ∷ []) ++ all)))
      (λ all. local_pure room other le (name_of all))

  pub name_local : Local room other le name name
  name_local = local_bind room other le identifier identifier name_after name_after (local_identifier room other le) after_local

  pair_local : Local room other le (expect y.OpenBracket >> expect y.CloseBracket) (expect y.OpenBracket >> expect y.CloseBracket)
  pair_local =
      local_bind room other le (expect y.OpenBracket) (expect y.OpenBracket) (λ u. expect y.CloseBracket) (λ u. expect y.CloseBracket) (local_expect room other le y.OpenBracket) (λ u. local_expect room other le y.CloseBracket)

  pairs_local : Local room other le pairs pairs
  pairs_local =
      local_many room other le (begins_with y.OpenBracket) (expect y.OpenBracket >> expect y.CloseBracket) (expect y.OpenBracket >> expect y.CloseBracket) refl (behind_shortens y.OpenBracket (expect y.CloseBracket) (expect_keeps y.CloseBracket))
      (behind_shortens y.OpenBracket (expect y.CloseBracket) (expect_keeps y.CloseBracket)) pair_local

  pub dims_local : Local room other le dims dims
  unfolding dims
  dims_local = local_bind room other le pairs pairs (λ all. pure (0 + length all)) (λ all. pure (0 + length all)) pairs_local (λ all. local_pure room other le (0 + length all))

  pub looks_primitive : Looks room other le primitive_at
  looks_primitive [] [] e = refl
  looks_primitive [] (k ∷ us) e = absurd (cc)
  looks_primitive (k ∷ ts) [] e = absurd (cc)
  looks_primitive (k ∷ ts) (j ∷ us) e = let same : k ≡ j = cc in ap primitive_kind same

  by_local : (o : Option Primitive) → Local room other le (base_by o) (base_by o)
  by_local None ts = local_bind room other le name name (λ n. pure (base.Named n)) (λ n. pure (base.Named n)) name_local (λ n. local_pure room other le (base.Named n)) ts
  by_local (Some p) [] = λ wider. here room other le (base_by (Some p)) (λ w. Err (NoTree, w)) [] (λ w e. let n = no_first w e in rw n refl)
  by_local (Some p) (token ∷ ts) = record { front = token ∷ []; split = refl; again = λ w e. refl }

  pub element_local : Local room other le element element
  unfolding element
  element_local = local_on room other le primitive_at base_by base_by looks_primitive by_local

  pub type_local : Local room other le type_use type_use
  unfolding type_use
  type_local =
      local_bind room other le element element (λ b. dims >>= (λ n. pure (type_of b n))) (λ b. dims >>= (λ n. pure (type_of b n))) element_local
      (λ b. local_bind room other le dims dims (λ n. pure (type_of b n)) (λ n. pure (type_of b n)) dims_local (λ n. local_pure room other le (type_of b n)))

  -- ---- a name at the head of an expression

  no_dot : (k : Kind) (w : List Kind) → begins_with y.Dot (Some k) ≡ false → Some k ≡ first w → begins_with y.Dot (first w) ≡ false
  no_dot k w h e = ap (begins_with y.Dot) (sym e) ∙ h

  stays : (b : Bool) (before : List Text) (last : Text) (ts : List Kind) → begins_with y.Dot (first ts) ≡ false → Kept room other le (dotted b before last) ts (Ok (Plain before last, ts))
  stays b before last ts h = here room other le (dotted b before last) (λ w. Ok (Plain before last, w)) ts (λ w e. dotted_end b before last w (ap (begins_with y.Dot) (sym e) ∙ h))

  dotted_kept : (b : Bool) (turns : ℕ) (before : List Text) (last : Text) (ts : List Kind) → length ts ≤ turns → Kept room other le (dotted b before last) ts (dotted_from b turns before last ts)
  dotted_kept b zero before last [] l = stays b before last [] refl
  dotted_kept b zero before last (k ∷ ts) l = absurd (omega arith)
  dotted_kept b (suc turns) before last [] l = stays b before last [] refl
  dotted_kept b (suc turns) before last (kind.Sym y.Dot ∷ []) l = λ wider. record {
    front = kind.Sym y.Dot ∷ [];
    split = refl;
    again = λ w e. let n = no_first w e in rw n (dotted_at_dot b before last []);
  }
  dotted_kept b (suc turns) before last (kind.Sym y.Dot ∷ kind.Ident part ∷ ts) l =
      along room other le (λ us. dotted b before last (kind.Sym y.Dot ∷ us)) (dotted b before last) (kind.Sym y.Dot) (kind.Ident part ∷ ts) (dotted_from b turns (before ++ last ∷ []) part ts) (λ us. refl)
      (along room other le (dotted b (before ++ last ∷ []) part) (λ us. dotted b before last (kind.Sym y.Dot ∷ us)) (kind.Ident part) ts (dotted_from b turns (before ++ last ∷ []) part ts)
      (λ us. dotted_more b before last (kind.Sym y.Dot ∷ kind.Ident part ∷ us) part us refl refl) (dotted_kept b turns (before ++ last ∷ []) part ts (omega arith)))
  dotted_kept true (suc turns) before last (kind.Sym y.Dot ∷ kind.Word k.This ∷ ts) l = record {
    front = kind.Sym y.Dot ∷ kind.Word k.This ∷ [];
    split = refl;
    again = λ w e. dotted_at_dot true before last (kind.Word k.This ∷ w);
  }
  dotted_kept false (suc turns) before last (kind.Sym y.Dot ∷ kind.Word k.This ∷ ts) l = λ wider. record {
    front = kind.Sym y.Dot ∷ [];
    split = refl;
    again = λ w e. let v = one_first (kind.Word k.This) w e in rw v.1 (dotted_at_dot false before last (kind.Word k.This ∷ v.0));
  }
  dotted_kept b (suc turns) before last (kind.Sym y.Dot ∷ token ∷ ts) l = λ wider. record {
    front = kind.Sym y.Dot ∷ [];
    split = refl;
    again = λ w e. let v = one_first token w e in rw v.1 (dotted_at_dot b before last (token ∷ v.0));
  }
  dotted_kept b (suc turns) before last (token ∷ ts) l = stays b before last (token ∷ ts) refl

  pub dotted_local : (b : Bool) (before : List Text) (last : Text) → Local room other le (dotted b before last) (dotted b before last)
  unfolding dotted
  dotted_local b before last ts = dotted_kept b (length ts) before last ts (omega arith)

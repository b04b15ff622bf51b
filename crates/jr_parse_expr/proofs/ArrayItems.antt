-- Reading an array with its items, at the close bracket of its first pair.
use Rattle.std.proofs.Common.{◌≡◌, ℕ, suc, true, List, [], ◌∷◌, drop, Ok, refl}
use Rattle.jr_base.specs.declared.kind.Symbol.TheVariants as y
use Rattle.jr_base.specs.declared.kind.Kind.{Kind}
use Rattle.jr_tree.specs.declared.tree.Base.{Base}
use Rattle.jr_tree.specs.Mirror.Exprs as x
use Rattle.jr_parse_laws.specs.declared.fault.Fault.{Fault}
use Rattle.jr_parse_laws.specs.declared.fault.Fault.TheVariants.{NoTree, TooDeep, OutOfMemory}
use Rattle.jr_parse_laws.specs.Parsers.{Parser, is_at, Fails}
use Rattle.jr_parse_expr.specs.Names.{dims}
use Rattle.jr_parse_expr.specs.Exprs.{Lead, skipping, unsized}

module _ (room : ℕ) (inner : Lead → ℕ → Parser x.Expr) (list : Parser x.InitList) (b : Base) where
  pub items_unpaired : (ts : List Kind) (f : Fault) (new : List Kind) → is_at y.CloseBracket ts ≡ true → Fails (dims (drop 1 ts)) f new → Fails (skipping (unsized room inner list b) ts) f new
  unfolding unsized
  items_unpaired ts OutOfMemory new h d = tt
  items_unpaired [] NoTree new h d = absurd (cc)
  items_unpaired [] TooDeep new h d = absurd (cc)
  items_unpaired (token ∷ ts) NoTree new h d = rw d refl
  items_unpaired (token ∷ ts) TooDeep new h d = rw d refl

  pub items_unlisted : (ts : List Kind) (n : ℕ) (mid : List Kind) (f : Fault) (new : List Kind) → is_at y.CloseBracket ts ≡ true → dims (drop 1 ts) ≡ Ok (n, mid) → Fails (list mid) f new
      → Fails (skipping (unsized room inner list b) ts) f new
  unfolding unsized
  items_unlisted ts n mid OutOfMemory new h d l = tt
  items_unlisted [] n mid NoTree new h d l = absurd (cc)
  items_unlisted [] n mid TooDeep new h d l = absurd (cc)
  items_unlisted (token ∷ ts) n mid NoTree new h d l = rw (d, l) refl
  items_unlisted (token ∷ ts) n mid TooDeep new h d l = rw (d, l) refl

  pub items_listed : (ts : List Kind) (n : ℕ) (mid : List Kind) (items : x.InitList) (rest : List Kind) → is_at y.CloseBracket ts ≡ true → dims (drop 1 ts) ≡ Ok (n, mid) → list mid ≡ Ok (items, rest)
      → skipping (unsized room inner list b) ts ≡ Ok (x.NewArray b x.no_exprs (suc n) (x.a_list items), rest)
  unfolding unsized
  items_listed [] n mid items rest h d l = absurd (cc)
  items_listed (token ∷ ts) n mid items rest h d l = rw (d, l) refl

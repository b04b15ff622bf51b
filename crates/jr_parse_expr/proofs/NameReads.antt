-- Reading names and types is exact in both directions.
use Rattle.std.proofs.Common.{◌≡◌, ℕ, zero, suc, ◌+◌, ◌≤◌, Bool, true, false, not, ltb, List, [], ◌∷◌, ◌++◌, length, Option, Some, None, Ok, refl, sym, ap, ◌∙◌, subst, append_assoc, le-ltb, arith}
use Rattle.jr_base.specs.declared.text.Text.{Text}
use Rattle.jr_base.specs.declared.kind.Kind.{Kind}
use Rattle.jr_base.specs.declared.kind.Kind.TheVariants as kind
use Rattle.jr_base.specs.declared.kind.Symbol.TheVariants as y
use Rattle.jr_base.specs.declared.kind.Keyword.{Keyword}
use Rattle.jr_base.specs.declared.kind.Keyword.TheVariants as k
use Rattle.jr_tree.specs.declared.tree.Name.{Name}
use Rattle.jr_tree.specs.declared.tree.Primitive.{Primitive}
use Rattle.jr_tree.specs.declared.tree.Primitive.TheVariants as primitive
use Rattle.jr_tree.specs.declared.tree.Base.{Base}
use Rattle.jr_tree.specs.declared.tree.Base.TheVariants as base
use Rattle.jr_tree.specs.declared.tree.TypeUse.{TypeUse}
use Rattle.jr_tree.specs.Words.{primitive_word}
use Rattle.jr_tree.specs.Shape.{is_empty, IsName, IsBase, IsTypeUse}
use Rattle.jr_parse_laws.specs.Parsers.{Parser, and_then, first, begins_with, expect, identifier, with_front, ◌>>◌}
use Rattle.jr_parse_laws.proofs.Outcomes.{bind_ok, ok_is, err_ok, some_is}
use Rattle.jr_parse_laws.proofs.Exact.{expect_sound, identifier_token}
use Rattle.jr_parse_laws.proofs.Lists.{many_over, many_turn}
use Rattle.jr_parse_laws.proofs.Turns.{at_first, behind_shortens, expect_keeps, identifier_keeps}
use Rattle.jr_parse_expr.specs.Names.{name_of, type_of, pairs, counted, dims, parts, named_all, name_after, name, primitive_of, primitive_kind, primitive_at, base_by, element, type_use, Dotted, Plain, Enclosing, dotted_from, dotted}
use Rattle.jr_parse_expr.specs.Writing.{write_parts, write_all, write_name, write_brackets, write_base, write_type, write_dotted}
use Rattle.jr_parse_expr.specs.Follow.{DotFree, is_plain_name, TypeEnds}
use Rattle.jr_parse_expr.proofs.NameLaws.{dims_more, dims_done, dotted_more, dotted_at_dot}
use Rattle.jr_parse_expr.proofs.Repeats.{write_each, many_sound}

-- a symbol and then what p reads
pub behind_sound : {A : Type 0} (s : _) (p : Parser A) (ts : List Kind) (r : A × List Kind) → (expect s >> p) ts ≡ Ok r → (us : List Kind) × (ts ≡ kind.Sym s ∷ us) × (p us ≡ Ok r)
behind_sound s p ts y h = let a = bind_ok (expect s ts) (λ u. p) y h in (a.0.1, expect_sound s ts a.0 a.1, a.2)

-- ---- dots and identifiers

part_sound : (ts : List Kind) (r : Text × List Kind) → (expect y.Dot >> identifier) ts ≡ Ok r → Unit {0} × (ts ≡ kind.Sym y.Dot ∷ kind.Ident r.0 ∷ r.1)
part_sound ts r h =
    let b = behind_sound y.Dot identifier ts r h in
    (tt, b.1 ∙ ap (λ us. kind.Sym y.Dot ∷ us) (identifier_token.took b.0 r b.2))

parts_read : (all : List Text) (rest : List Kind) → begins_with y.Dot (first rest) ≡ false → parts (write_parts all rest) ≡ Ok (all, rest)
parts_read [] rest h = many_over (begins_with y.Dot) (expect y.Dot >> identifier) rest h
parts_read (part ∷ all) rest h =
    many_turn (begins_with y.Dot) (expect y.Dot >> identifier) refl (behind_shortens y.Dot identifier identifier_keeps) (kind.Sym y.Dot ∷ kind.Ident part ∷ write_parts all rest) refl
    ∙ ap (λ o. and_then o (λ all rest. Ok (part ∷ all, rest))) (parts_read all rest h)

abbrev write_part : Text → List Kind → List Kind
write_part part rest = kind.Sym y.Dot ∷ kind.Ident part ∷ rest

each_part : (all : List Text) (rest : List Kind)
    → write_each (begins_with y.Dot) (expect y.Dot >> identifier) refl (behind_shortens y.Dot identifier identifier_keeps) (λ t. Unit {0}) write_part part_sound all rest ≡ write_parts all rest
each_part [] rest = refl
each_part (part ∷ all) rest = ap (λ ts. kind.Sym y.Dot ∷ kind.Ident part ∷ ts) (each_part all rest)

parts_sound : (ts : List Kind) (r : List Text × List Kind) → parts ts ≡ Ok r → (ts ≡ write_parts r.0 r.1) × (begins_with y.Dot (first r.1) ≡ false)
parts_sound ts r h =
    let found = many_sound (begins_with y.Dot) (expect y.Dot >> identifier) refl (behind_shortens y.Dot identifier identifier_keeps) (λ t. Unit {0}) write_part part_sound ts r h in
    (found.written ∙ each_part r.0 r.1, found.ended)

pub name_after_read : (head : Text) (all : List Text) (rest : List Kind) → begins_with y.Dot (first rest) ≡ false → name_after head (write_parts all rest) ≡ Ok (name_of (head ∷ all), rest)
unfolding name_after
name_after_read head all rest h = ap (λ o. named_all (with_front (head ∷ []) o)) (parts_read all rest h)

pub name_read : (n : Name) (rest : List Kind) → IsName n → begins_with y.Dot (first rest) ≡ false → name (write_name n rest) ≡ Ok (n, rest)
name_read n rest is h = all_read n.parts is where
  all_read : (all : List Text) → not (is_empty all) ≡ true → name (write_all all rest) ≡ Ok (name_of all, rest)
  all_read [] g = absurd (cc)
  all_read (head ∷ all) g = name_after_read head all rest h

pub name_sound : (ts : List Kind) (r : Name × List Kind) → name ts ≡ Ok r → IsName r.0 × (ts ≡ write_name r.0 r.1) × (begins_with y.Dot (first r.1) ≡ false)
unfolding name_after
name_sound ts r h =
    let head = bind_ok (identifier ts) name_after r h in
    let front = bind_ok (with_front (head.0.0 ∷ []) (parts head.0.1)) _ r head.2 in
    let all = bind_ok (parts head.0.1) _ front.0 front.1 in
    let found = parts_sound head.0.1 all.0 all.1 in
    subst (λ (r : Name × List Kind). IsName r.0 × (ts ≡ write_name r.0 r.1) × (begins_with y.Dot (first r.1) ≡ false))
    (ap (λ (p : List Text × List Kind). (name_of p.0, p.1)) (ok_is all.2) ∙ ok_is front.2)
    (refl, identifier_token.took ts head.0 head.1 ∙ ap (λ us. kind.Ident head.0.0 ∷ us) found.0, found.1)

-- ---- pairs of brackets

brackets_counted : (m n : ℕ) (rest : List Kind) → begins_with y.OpenBracket (first rest) ≡ false → counted m (pairs (write_brackets n rest)) ≡ Ok (m + n, rest)
brackets_counted m zero rest h = dims_done m rest (sym (at_first y.OpenBracket rest) ∙ h) ∙ (let e : m ≡ m + 0 = omega arith in ap (λ n. Ok (n, rest)) e)
brackets_counted m (suc n) rest h =
    dims_more m (write_brackets (suc n) rest) tt (write_brackets n rest) refl refl ∙ brackets_counted (m + 1) n rest h ∙ (let e : m + 1 + n ≡ m + suc n = omega arith in ap (λ n. Ok (n, rest)) e)

pub dims_read : (n : ℕ) (rest : List Kind) → begins_with y.OpenBracket (first rest) ≡ false → dims (write_brackets n rest) ≡ Ok (n, rest)
unfolding dims
dims_read n rest h = brackets_counted 0 n rest h ∙ (let e : 0 + n ≡ n = omega arith in ap (λ n. Ok (n, rest)) e)

abbrev write_pair : Unit {0} → List Kind → List Kind
write_pair u rest = kind.Sym y.OpenBracket ∷ kind.Sym y.CloseBracket ∷ rest

pair_sound : (ts : List Kind) (r : Unit {0} × List Kind) → (expect y.OpenBracket >> expect y.CloseBracket) ts ≡ Ok r → Unit {0} × (ts ≡ write_pair r.0 r.1)
pair_sound ts r h =
    let b = behind_sound y.OpenBracket (expect y.CloseBracket) ts r h in
    (tt, b.1 ∙ ap (λ us. kind.Sym y.OpenBracket ∷ us) (expect_sound y.CloseBracket b.0 r b.2))

each_pair : (all : List (Unit {0})) (rest : List Kind)
    → write_each (begins_with y.OpenBracket) (expect y.OpenBracket >> expect y.CloseBracket) refl (behind_shortens y.OpenBracket (expect y.CloseBracket) (expect_keeps y.CloseBracket)) (λ t. Unit {0}) write_pair pair_sound all rest
    ≡ write_brackets (length all) rest
each_pair [] rest = refl
each_pair (u ∷ all) rest = ap (λ ts. kind.Sym y.OpenBracket ∷ kind.Sym y.CloseBracket ∷ ts) (each_pair all rest)

pub dims_sound : (ts : List Kind) (r : ℕ × List Kind) → dims ts ≡ Ok r → (ts ≡ write_brackets r.0 r.1) × (begins_with y.OpenBracket (first r.1) ≡ false)
unfolding dims
dims_sound ts r h =
    let all = bind_ok (pairs ts) _ r h in
    let found = many_sound (begins_with y.OpenBracket) (expect y.OpenBracket >> expect y.CloseBracket) refl (behind_shortens y.OpenBracket (expect y.CloseBracket) (expect_keeps y.CloseBracket)) (λ t. Unit {0}) write_pair pair_sound ts all.0 all.1 in
    let count : length all.0.0 ≡ 0 + length all.0.0 = omega arith in
    subst (λ (r : ℕ × List Kind). (ts ≡ write_brackets r.0 r.1) × (begins_with y.OpenBracket (first r.1) ≡ false)) (ok_is all.2)
    (found.written ∙ each_pair all.0.0 all.0.1 ∙ ap (λ n. write_brackets n all.0.1) count, found.ended)

-- ---- types

primitive_back : (w : Keyword) (p : Primitive) → primitive_of w ≡ Some p → w ≡ primitive_word p
primitive_back k.Boolean p h = ap primitive_word (some_is h)
primitive_back k.Byte p h = ap primitive_word (some_is h)
primitive_back k.Short p h = ap primitive_word (some_is h)
primitive_back k.Char p h = ap primitive_word (some_is h)
primitive_back k.Int p h = ap primitive_word (some_is h)
primitive_back k.Long p h = ap primitive_word (some_is h)
primitive_back _ p h = absurd (cc)

pub primitive_kind_back : (token : Kind) (p : Primitive) → primitive_kind token ≡ Some p → token ≡ kind.Word (primitive_word p)
primitive_kind_back (kind.Word w) p h = ap kind.Word (primitive_back w p h)
primitive_kind_back token p h = absurd (cc)

pub primitive_here : (p : Primitive) → primitive_kind (kind.Word (primitive_word p)) ≡ Some p
primitive_here primitive.Boolean = refl
primitive_here primitive.Byte = refl
primitive_here primitive.Short = refl
primitive_here primitive.Char = refl
primitive_here primitive.Int = refl
primitive_here primitive.Long = refl

-- where a base ends: a name takes dots
abbrev pub BaseEnds : Base → Option Kind → Type 0
BaseEnds (base.Primitive p) o = Unit {0}
BaseEnds (base.Named n) o = begins_with y.Dot o ≡ false

pub base_named : (all : List Text) (rest : List Kind) → not (is_empty all) ≡ true → primitive_at (write_all all rest) ≡ None
base_named [] rest h = absurd (cc)
base_named (head ∷ all) rest h = refl

pub element_read : (b : Base) (rest : List Kind) → IsBase b → BaseEnds b (first rest) → element (write_base b rest) ≡ Ok (b, rest)
unfolding element
element_read (base.Primitive p) rest is h = ap (λ o. base_by o (kind.Word (primitive_word p) ∷ rest)) (primitive_here p)
element_read (base.Named n) rest is h =
    ap (λ o. base_by o (write_name n rest)) (base_named n.parts rest is) ∙ ap (λ o. and_then o (λ n rest. Ok (base.Named n, rest))) (name_read n rest is h)

pub record BaseFound (ts : List Kind) (r : Base × List Kind) : Type 0 where
  pub is : IsBase r.0
  pub written : ts ≡ write_base r.0 r.1
  pub ended : BaseEnds r.0 (first r.1)

base_sound : (o : Option Primitive) (ts : List Kind) (r : Base × List Kind) → primitive_at ts ≡ o → base_by o ts ≡ Ok r → BaseFound ts r
base_sound None ts r g h =
    let n = bind_ok (name ts) _ r h in
    let found = name_sound ts n.0 n.1 in
    subst (BaseFound ts) (ok_is n.2) (record { is = found.0; written = found.1; ended = found.2 })
base_sound (Some p) [] r g h = absurd (err_ok h)
base_sound (Some p) (token ∷ ts) r g h = subst (BaseFound (token ∷ ts)) (ok_is h) (record { is = tt; written = ap (λ token. token ∷ ts) (primitive_kind_back token p g); ended = tt })

pub element_sound : (ts : List Kind) (r : Base × List Kind) → element ts ≡ Ok r → BaseFound ts r
unfolding element
element_sound ts r h = base_sound (primitive_at ts) ts r refl h

-- what a base and brackets end before
pub base_ends : (b : Base) (n : ℕ) (rest : List Kind) → DotFree (is_plain_name (type_of b n)) (first rest) → BaseEnds b (first (write_brackets n rest))
base_ends (base.Primitive p) n rest h = tt
base_ends (base.Named name) zero rest h = h
base_ends (base.Named name) (suc n) rest h = refl

pub type_ends : (b : Base) (n : ℕ) (ts rest : List Kind) → ts ≡ write_brackets n rest → BaseEnds b (first ts) → DotFree (is_plain_name (type_of b n)) (first rest)
type_ends (base.Primitive p) n ts rest e h = tt
type_ends (base.Named name) zero ts rest e h = subst (λ (ts : List Kind). begins_with y.Dot (first ts) ≡ false) e h
type_ends (base.Named name) (suc n) ts rest e h =
    let f : ltb (suc n) 1 ≡ false = le-ltb (suc n) 1 (omega arith) in
    rw f tt

pub type_read : (t : TypeUse) (rest : List Kind) → IsTypeUse t → TypeEnds t (first rest) → type_use (write_type t rest) ≡ Ok (t, rest)
unfolding type_use
type_read t rest is h =
    rw (element_read t.base (write_brackets t.dims rest) is (base_ends t.base t.dims rest h.1), dims_read t.dims rest h.0) refl

pub record TypeFound (ts : List Kind) (r : TypeUse × List Kind) : Type 0 where
  pub is : IsTypeUse r.0
  pub written : ts ≡ write_type r.0 r.1
  pub ended : TypeEnds r.0 (first r.1)

pub type_sound : (ts : List Kind) (r : TypeUse × List Kind) → type_use ts ≡ Ok r → TypeFound ts r
unfolding type_use
type_sound ts r h =
    let b = bind_ok (element ts) _ r h in
    let is_base = element_sound ts b.0 b.1 in
    let n = bind_ok (dims b.0.1) _ r b.2 in
    let found = dims_sound b.0.1 n.0 n.1 in
    subst (TypeFound ts) (ok_is n.2)
    (record {
      is = is_base.is;
      written = is_base.written ∙ ap (write_base b.0.0) found.0;
      ended = (found.1, type_ends b.0.0 n.0.0 b.0.1 n.0.1 found.0 is_base.ended);
    })

-- ---- a name at the head of an expression

pub dotted_end : (b : Bool) (before : List Text) (last : Text) (rest : List Kind) → begins_with y.Dot (first rest) ≡ false → dotted b before last rest ≡ Ok (Plain before last, rest)
unfolding dotted
dotted_end b before last [] h = refl
dotted_end b before last (kind.Sym y.Dot ∷ rest) h = absurd (cc)
dotted_end b before last (k ∷ rest) h = refl

dotted_on : (b : Bool) (before : List Text) (last part : Text) (rest : List Kind) → dotted b before last (kind.Sym y.Dot ∷ kind.Ident part ∷ rest) ≡ dotted b (before ++ last ∷ []) part rest
dotted_on b before last part rest = dotted_more b before last (kind.Sym y.Dot ∷ kind.Ident part ∷ rest) part rest refl refl

-- the identifiers before the last
pub record Headed (b : Bool) (before all : List Text) (make : List Text → Text → Dotted) (head : Text) (ts rest : List Kind) : Type 0 where
  pub front : List Text
  pub last : Text
  pub read : dotted b before head ts ≡ Ok (make front last, rest)
  pub parts : front ++ last ∷ [] ≡ before ++ head ∷ all

-- a name
pub dotted_name : (b : Bool) (before : List Text) (head : Text) (all : List Text) (rest : List Kind) → begins_with y.Dot (first rest) ≡ false → Headed b before all Plain head (write_parts all rest) rest
dotted_name b before head [] rest h = record { front = before; last = head; read = dotted_end b before head rest h; parts = refl }
dotted_name b before head (part ∷ all) rest h =
    let more = dotted_name b (before ++ head ∷ []) part all rest h in
    record { front = more.front; last = more.last; read = dotted_on b before head part (write_parts all rest) ∙ more.read; parts = more.parts ∙ append_assoc before (head ∷ []) (part ∷ all) }

-- a name before a method's name
pub dotted_method : (b : Bool) (before : List Text) (head : Text) (all : List Text) (method : Text) (rest : List Kind)
    → dotted b before head (write_parts all (kind.Sym y.Dot ∷ kind.Ident method ∷ rest)) ≡ dotted b (before ++ head ∷ all) method rest
dotted_method b before head [] method rest = dotted_on b before head method rest
dotted_method b before head (part ∷ all) method rest =
    dotted_on b before head part (write_parts all (kind.Sym y.Dot ∷ kind.Ident method ∷ rest)) ∙ dotted_method b (before ++ head ∷ []) part all method rest
    ∙ ap (λ before. dotted b before method rest) (append_assoc before (head ∷ []) (part ∷ all))

-- a name before `this`
pub dotted_this : (before : List Text) (head : Text) (all : List Text) (rest : List Kind)
    → Headed true before all Enclosing head (write_parts all (kind.Sym y.Dot ∷ kind.Word k.This ∷ rest)) rest
dotted_this before head [] rest = record { front = before; last = head; read = dotted_at_dot true before head (kind.Word k.This ∷ rest); parts = refl }
dotted_this before head (part ∷ all) rest =
    let more = dotted_this (before ++ head ∷ []) part all rest in
    record {
      front = more.front;
      last = more.last;
      read = dotted_on true before head part (write_parts all (kind.Sym y.Dot ∷ kind.Word k.This ∷ rest)) ∙ more.read;
      parts = more.parts ∙ append_assoc before (head ∷ []) (part ∷ all);
    }

pub parts_append : (some more : List Text) (rest : List Kind) → write_parts (some ++ more) rest ≡ write_parts some (write_parts more rest)
parts_append [] more rest = refl
parts_append (part ∷ some) more rest = ap (λ ts. kind.Sym y.Dot ∷ kind.Ident part ∷ ts) (parts_append some more rest)

pub all_append : (before : List Text) (last : Text) (more : List Text) (rest : List Kind) → write_all ((before ++ last ∷ []) ++ more) rest ≡ write_all (before ++ last ∷ []) (write_parts more rest)
all_append [] last more rest = refl
all_append (head ∷ before) last more rest = ap (λ ts. kind.Ident head ∷ ts) (parts_append (before ++ last ∷ []) more rest)

abbrev pub DottedEnds : Dotted → Option Kind → Type 0
DottedEnds (Plain before last) o = begins_with y.Dot o ≡ false
DottedEnds (Enclosing before last) o = Unit {0}

pub record DottedFound (ts : List Kind) (r : Dotted × List Kind) : Type 0 where
  pub written : ts ≡ write_dotted r.0 r.1
  pub ended : DottedEnds r.0 (first r.1)

dotted_from_sound : (b : Bool) (turns : ℕ) (before : List Text) (last : Text) (ts : List Kind) (r : Dotted × List Kind) → length ts ≤ turns → dotted_from b turns before last ts ≡ Ok r
    → DottedFound (write_all (before ++ last ∷ []) ts) r
dotted_from_sound b zero before last [] r l h = subst (DottedFound (write_all (before ++ last ∷ []) [])) (ok_is h) (record { written = refl; ended = refl })
dotted_from_sound b zero before last (k ∷ ts) r l h = absurd (omega arith)
dotted_from_sound b (suc turns) before last [] r l h = subst (DottedFound (write_all (before ++ last ∷ []) [])) (ok_is h) (record { written = refl; ended = refl })
dotted_from_sound b (suc turns) before last (kind.Sym y.Dot ∷ []) r l h = absurd (err_ok h)
dotted_from_sound b (suc turns) before last (kind.Sym y.Dot ∷ kind.Ident part ∷ ts) r l h =
    subst (λ ts. DottedFound ts r) (all_append before last (part ∷ []) ts) (dotted_from_sound b turns (before ++ last ∷ []) part ts r (omega arith) h)
dotted_from_sound true (suc turns) before last (kind.Sym y.Dot ∷ kind.Word k.This ∷ ts) r l h =
    subst (DottedFound (write_all (before ++ last ∷ []) (kind.Sym y.Dot ∷ kind.Word k.This ∷ ts))) (ok_is h) (record { written = refl; ended = tt })
dotted_from_sound false (suc turns) before last (kind.Sym y.Dot ∷ kind.Word k.This ∷ ts) r l h = absurd (err_ok h)
dotted_from_sound b (suc turns) before last (kind.Sym y.Dot ∷ k ∷ ts) r l h = absurd (err_ok h)
dotted_from_sound b (suc turns) before last (k ∷ ts) r l h = subst (DottedFound (write_all (before ++ last ∷ []) (k ∷ ts))) (ok_is h) (record { written = refl; ended = refl })

pub dotted_sound : (b : Bool) (before : List Text) (last : Text) (ts : List Kind) (r : Dotted × List Kind) → dotted b before last ts ≡ Ok r → DottedFound (write_all (before ++ last ∷ []) ts) r
unfolding dotted
dotted_sound b before last ts r h = dotted_from_sound b (length ts) before last ts r (omega arith) h

pub has_parts : (before : List Text) (last : Text) → not (is_empty (before ++ last ∷ [])) ≡ true
has_parts [] last = refl
has_parts (part ∷ before) last = refl

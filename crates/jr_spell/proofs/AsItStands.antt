-- What the old shape of a reference finds where it is not written by identifiers alone: what is no call, and through what.
use Rattle.std.proofs.Common.{◌≡◌, refl, sym, ◌∙◌, ap, arith, ℕ, zero, suc, ◌+◌, ◌<◌, Bool, true, false, cond, List, [], Option, Some, None, nat_eq, nat_lt}
use Rattle.std.proofs.lemmas.Bool.{false≢true}
use Rattle.std.proofs.lemmas.Bool.Decides.{Decides-ltb}
use Rattle.std.proofs.lemmas.Option.{none-some, same_Some}
use Rattle.jr_base.specs.declared.text.Text.{Text}
use Rattle.jr_tree.specs.declared.label.NameKind.{NameKind}
use Rattle.jr_tree.specs.declared.label.NameKind.TheVariants as kind
use Rattle.jr_tree.specs.declared.label.Sought.{Sought}
use Rattle.jr_tree.specs.declared.label.Sought.TheVariants as sought
use Rattle.jr_tree.specs.Rows.{Rows, name, parent, sought_at}
use Rattle.jr_defs.specs.declared.referent.Element.{Element}
use Rattle.jr_defs.specs.declared.referent.Element.TheVariants as element
use Rattle.jr_defs.specs.declared.referent.Referent.{Referent}
use Rattle.jr_defs.specs.declared.referent.RowType.{RowType}
use Rattle.jr_defs.specs.Constants.{HasConstantForm}
use Rattle.jr_defs.specs.Lookup.{LookFor}
use Rattle.jr_defs.specs.Referents.{Table}
use Rattle.jr_plain.specs.Headed.{IsHeaded}
use Rattle.jr_plain.specs.Overloads.{Types}
use Rattle.jr_plain.proofs.LookedUp.{look_for_finds}
use Rattle.jr_shapes.specs.Names.{named_by}
use Rattle.jr_supers.specs.Direct.{object_row}
use Rattle.jr_supers.specs.Tabled.{first_child}
use Rattle.jr_with.specs.World.{Left, world_of, left_of}
use Rattle.jr_with.specs.With.{look_with}
use Rattle.jr_with.proofs.Reading.{look_for_same}
use Rattle.jr_lookup.proofs.Looking.{named_first}
use Rattle.jr_spelling_rules.specs.Candidates as candidate
use Rattle.jr_spelling_rules.specs.Candidates.{Candidate}
use Rattle.jr_spelling_rules.specs.Fitting as fitting
use Rattle.jr_spelling_rules.specs.Fitting.{found}
use Rattle.jr_spell.specs.declared.fitting.Looked.{Looked}
use Rattle.jr_spell.specs.declared.fitting.Way.{Way}
use Rattle.jr_spell.specs.declared.speller.Speller.{Speller}
use Rattle.jr_spell.specs.Shaping.{IsLookedAs, as_it_stands, class_type_in, object_type, receiver_by, standing_way, type_behind}
use Rattle.jr_spell.specs.Spellers.{rows_of, table_of, types_of, number_by}
use Rattle.jr_spell.specs.Spelling.{HasTypes}

-- ---- what is found

module _ (p : Rows) (t : Table) (type_of : Types) (given : Option (List RowType)) (n : ℕ) where
  abbrev standing : Candidate
  standing = candidate.as_it_stands p t type_of given n

  abbrev seen : Left → Text → Sought → Referent
  seen l x s = look_with p (world_of p t) l n x s

  abbrev left_for : Sought → Left
  left_for s = candidate.left_standing s given (left_of p t type_of n)

  -- arguments are read of calls alone
  arguments_away : (x : Text) (s : Sought) → candidate.is_call s ≡ false → seen (left_of p t type_of n) x s ≡ seen (left_for s) x s
  arguments_away x (sought.Simple kind.Variable) e = refl
  arguments_away x (sought.Simple kind.Type) e = refl
  arguments_away x (sought.Simple kind.PackageOrType) e = refl
  arguments_away x (sought.Simple kind.Ambiguous) e = refl
  arguments_away x (sought.Simple kind.Package) e = refl
  arguments_away x (sought.Qualified kind.Variable) e = refl
  arguments_away x (sought.Qualified kind.Type) e = refl
  arguments_away x (sought.Qualified kind.PackageOrType) e = refl
  arguments_away x (sought.Qualified kind.Ambiguous) e = refl
  arguments_away x (sought.Qualified kind.Package) e = refl
  arguments_away x sought.FieldOf e = refl
  arguments_away x sought.SuperField e = refl
  arguments_away x sought.OwnClass e = refl
  arguments_away x sought.Label e = refl
  arguments_away x sought.Nothing e = refl
  arguments_away x sought.Method e = absurd (false≢true (sym e))
  arguments_away x sought.MethodOf e = absurd (false≢true (sym e))
  arguments_away x sought.SuperMethod e = absurd (false≢true (sym e))
  arguments_away x sought.Creation e = absurd (false≢true (sym e))
  arguments_away x (sought.ConstructorCall w) e = absurd (false≢true (sym e))

  pub standing_found : IsHeaded p → HasTypes p t type_of → (number : ℕ) (s : Sought) (a : Referent) → s ≡ sought_at p n → candidate.is_call s ≡ false → number ≡ number_by p n (t n)
      → LookFor p t (HasConstantForm p t) n (name p number) s a → a ≡ found p t n standing
  standing_found headed types number s a seeks uncalled is h = look_for_finds p t headed (HasConstantForm p t) type_of types.typed n (name p number) s a h
      ∙ sym (look_for_same p t type_of n (name p number) s)
      ∙ arguments_away (name p number) s uncalled
      ∙ ap (λ x. seen (left_for s) x s) (ap (name p) is ∙ named_first p (named_by p n (t n)))
      ∙ ap (λ r. seen (left_for r) (name p (named_by p n (t n))) r) seeks

-- ---- through what

-- the type right below the row
pub type_below : (p : Rows) (type_of : Types) (n child : ℕ) (found : Option ℕ) → found ≡ first_child p n → found ≡ Some child → type_of child ≡ type_behind p type_of n
type_below p type_of n child found is e = by (nat_eq (parent p (n + 1)) n) (sym is ∙ e)
  where
    by : (b : Bool) → cond b (Some (n + 1)) None ≡ Some child → type_of child ≡ cond b (type_of (n + 1)) None
    by true e = ap type_of (sym (same_Some (n + 1) child e))
    by false e = absurd (none-some child e)

pub no_type_below : (p : Rows) (type_of : Types) (n : ℕ) (found : Option ℕ) → found ≡ first_child p n → found ≡ None → None ≡ type_behind p type_of n
no_type_below p type_of n found is e = by (nat_eq (parent p (n + 1)) n) (sym is ∙ e)
  where
    by : (b : Bool) → cond b (Some (n + 1)) None ≡ None → None ≡ cond b (type_of (n + 1)) None
    by true e = absurd (none-some (n + 1) (sym e))
    by false e = refl

receiver_is : (p : Rows) (dims : ℕ) (e : Element) → receiver_by (object_row p) (record { element = e; dims = dims }) ≡ fitting.receiver_by p dims e
receiver_is p zero (element.Class c) = refl
receiver_is p zero _ = refl
receiver_is p (suc dims) e = let lt : 0 < suc dims = omega arith in ap (λ b. cond b (object_type (object_row p)) (class_type_in e)) ((Decides-ltb 0 (suc dims)).1 lt)

module _ (s : Speller) (given : Option (List RowType)) (n : ℕ) where
  abbrev p : Rows
  p = rows_of s

  abbrev value_by : Bool → Option RowType
  value_by has = cond has (type_behind p (types_of s) n) None

  pub value_there : (seeks : Sought) → seeks ≡ sought_at p n → (has : Bool) → has ≡ candidate.has_left seeks → has ≡ true → type_behind p (types_of s) n ≡ (as_it_stands s given n).left.value
  value_there seeks at has is e = ap value_by (sym e ∙ is ∙ ap candidate.has_left at)

  pub value_away : (seeks : Sought) → seeks ≡ sought_at p n → (has : Bool) → has ≡ candidate.has_left seeks → has ≡ false → None ≡ (as_it_stands s given n).left.value
  value_away seeks at has is e = ap value_by (sym e ∙ is ∙ ap candidate.has_left at)

  abbrev through_by : Option RowType → Option RowType
  through_by o = elim o as (λ _. Option RowType) [ Some a ↦ fitting.receiver_by p a.dims a.element | None ↦ None ]

  pub receiver_some : (object : Option ℕ) (a : RowType) (type result : Option RowType) → object ≡ object_row p → type ≡ (as_it_stands s given n).left.value → type ≡ Some a → result ≡ receiver_by object a
      → result ≡ fitting.receiver_type p (as_it_stands s given n).left
  receiver_some object a type result object_is is e h = h ∙ ap (λ o. receiver_by o a) object_is ∙ receiver_is p a.dims a.element ∙ ap through_by (sym e ∙ is)

  pub receiver_none : (type : Option RowType) → type ≡ (as_it_stands s given n).left.value → type ≡ None → None ≡ fitting.receiver_type p (as_it_stands s given n).left
  receiver_none type is e = ap through_by (sym e ∙ is)

  pub standing_looked : (receiver : Option RowType) (looked : Looked) → looked.found ≡ found p (table_of s) n (as_it_stands s given n) → looked.trace.items ≡ [] → receiver ≡ fitting.receiver_type p (as_it_stands s given n).left
      → looked.way ≡ standing_way receiver looked.found → IsLookedAs s n looked (as_it_stands s given n)
  standing_looked receiver looked found_is trace_is receiver_is way_is = record {
    found_is = found_is;
    trace_is = trace_is;
    receiver_is = ap (λ (w : Way). w.receiver) way_is ∙ receiver_is;
    level_is = ap (λ (w : Way). w.level) way_is ∙ ap candidate.level_of found_is;
    form_is = ap (λ (w : Way). w.is_constant_form) way_is;
  }

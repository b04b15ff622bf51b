-- What a method refers to behind a package or a type, alone, and as a member of an object, where the types of its arguments are said.
use Rattle.std.proofs.Common.{◌≡◌, refl, sym, ◌∙◌, ap, subst, ℕ, true, Bool, cond, List, [], ◌∷◌, ◌++◌, Option, Some, None, Decides, append-nil}
use Rattle.jr_base.specs.declared.text.Text.{Text}
use Rattle.jr_tree.specs.declared.label.Sought.{Sought}
use Rattle.jr_tree.specs.declared.label.Sought.TheVariants as sought
use Rattle.jr_tree.specs.Rows.{Rows, name, sought_at}
use Rattle.jr_defs.specs.declared.referent.Referent.{Referent}
use Rattle.jr_defs.specs.declared.referent.Referent.TheVariants.{Unbound}
use Rattle.jr_defs.specs.declared.referent.RowType.{RowType}
use Rattle.jr_defs.specs.declared.referent.Space.TheVariants as space
use Rattle.jr_defs.specs.Lookup.{MethodCandidate}
use Rattle.jr_defs.specs.Members.{MemberNamed}
use Rattle.jr_defs.specs.Overloads.{Choice}
use Rattle.jr_defs.specs.Referents.{Table}
use Rattle.jr_defs.specs.Types.{class_type}
use Rattle.jr_plain.specs.Headed.{IsHeaded}
use Rattle.jr_plain.specs.Lists.{at_level}
use Rattle.jr_plain.specs.Lookup as plain
use Rattle.jr_plain.specs.Members.{members_named}
use Rattle.jr_plain.specs.Overloads.{choice}
use Rattle.jr_plain.specs.Referents.{answer_of, is_candidate}
use Rattle.jr_plain.specs.Search.{Lists}
use Rattle.jr_plain.proofs.Answered.{answer_is}
use Rattle.jr_plain.proofs.Listed.{at_level_has}
use Rattle.jr_plain.proofs.LookedUp.{methods_has}
use Rattle.jr_plain.proofs.Membership.{members_named_list}
use Rattle.jr_plain.proofs.Overloaded.{choice_list}
use Rattle.jr_shapes.specs.declared.spelling.Shape.{Shape}
use Rattle.jr_shapes.specs.Names.{named_by}
use Rattle.jr_with.specs.World.{world_of}
use Rattle.jr_with.specs.With.{look_with}
use Rattle.jr_lookup.specs.Answers.{IsAnswerOr, IsFree}
use Rattle.jr_lookup.proofs.Calling.{answer_same}
use Rattle.jr_lookup.proofs.Looking.{named_first}
use Rattle.jr_spelling_rules.proofs.Found.{one_answer}
use Rattle.jr_spelling_rules.specs.Candidates as candidate
use Rattle.jr_spelling_rules.specs.Fitting.{found}
use Rattle.jr_spelling_rules.specs.Naming.{Before, at_start, in_package, in_type, left_behind, name_behind}
use Rattle.jr_spell.specs.Shaping.{method_found}
use Rattle.jr_spell.specs.Spellers.{number_by}

module _ (p : Rows) (t : Table) (headed : IsHeaded p) (o : ℕ) (all : List RowType) (x : Text) where
  -- ---- a method of a class, through a receiver

  module _ (c : ℕ) (receiver : Option RowType) where
    abbrev OfClass : ℕ → Type 0
    OfClass d = Choice p t c o receiver all (MemberNamed p t space.Method x c) d

    abbrev chosen : List ℕ
    chosen = choice p t c o receiver all (members_named p t space.Method x c)

    chosen_list : Lists (chosen ++ []) OfClass
    chosen_list = subst (λ rows. Lists rows OfClass) (sym (append-nil chosen))
        (choice_list p t headed c o receiver all (MemberNamed p t space.Method x c) (members_named p t space.Method x c) (members_named_list p t headed space.Method x c))

    abbrev AtNone : ℕ → Option ℕ → Type 0
    AtNone d l = OfClass d × (l ≡ None)

    of_free : (d : ℕ) (l : Option ℕ) → IsFree OfClass d l → AtNone d l
    of_free d l h = (h.is, h.free)

    to_free : (d : ℕ) (l : Option ℕ) → AtNone d l → IsFree OfClass d l
    to_free d l h = record { is = h.0; free = h.1 }

    pub chosen_found : (a : Referent) → IsAnswerOr (IsFree OfClass) Unbound a → a ≡ answer_of (at_level None (chosen ++ [])) Unbound
    chosen_found a h = one_answer AtNone Unbound a (answer_of (at_level None (chosen ++ [])) Unbound)
        (answer_same (IsFree OfClass) AtNone (λ r. r ≡ Unbound) (λ r. r ≡ Unbound) of_free to_free (λ b e. e) a h)
        (answer_is AtNone (λ r. r ≡ Unbound) (at_level None (chosen ++ [])) (λ d l. at_level_has None (chosen ++ []) chosen_list (d, l)) Unbound (λ never. refl))

  pub of_type_found : (c : ℕ) (a : Referent) → IsAnswerOr (IsFree (OfClass c None)) Unbound a → a ≡ method_found p t o (in_type c) all x
  of_type_found c a h = chosen_found c None a h

  -- ---- alone, and in a package

  abbrev alone : List (ℕ × Option ℕ)
  alone = plain.methods_at p t x o all (plain.method_level p t x o)

  pub alone_found : (a : Referent) → IsAnswerOr (λ d l. MethodCandidate p t x o all d l) Unbound a → a ≡ method_found p t o at_start all x
  alone_found a h = one_answer (λ d l. MethodCandidate p t x o all d l) Unbound a (answer_of alone Unbound) h
      (answer_is (λ d l. MethodCandidate p t x o all d l) (λ r. r ≡ Unbound) alone (λ d l. methods_has p t headed x o all (d, l)) Unbound (λ never. refl))

  pub in_package_found : (path : List Text) → Unbound ≡ method_found p t o (in_package path) all x
  in_package_found path = refl

-- behind what stands for the same
pub method_carried : (p : Rows) (t : Table) (o : ℕ) (all : List RowType) (x : Text) (a : Referent) (b e : Before) → b ≡ e → a ≡ method_found p t o e all x → a ≡ method_found p t o b all x
method_carried p t o all x a b e same h = h ∙ ap (λ q. method_found p t o q all x) (sym same)

-- ---- of the candidates

module _ (p : Rows) (t : Table) (given : Option (List RowType)) (n : ℕ) (shape : Shape) (trace : List Referent) (all : List RowType) (is_given : given ≡ Some all) where
  abbrev x : Text
  x = name p (named_by p n (t n))

  abbrev behind_with : Option (List RowType) → Before → Referent
  behind_with g b = look_with p (world_of p t) (candidate.with_arguments p t g n (left_behind b)) n x (candidate.method_behind b)

  abbrev behind_by : Before → Bool → Referent
  behind_by b call = look_with p (world_of p t) (candidate.with_arguments p t given n (left_behind b)) n x (cond call (candidate.method_behind b) (name_behind b (candidate.kind_of (sought_at p n))))

  pub called_behind : (b : Before) (seeks : Sought) (number : ℕ) (a : Referent) → seeks ≡ sought_at p n → candidate.is_call seeks ≡ true → number ≡ number_by p n (t n)
      → a ≡ method_found p t n b all (name p number) → a ≡ found p t n (candidate.behind p t given n shape trace b)
  called_behind b seeks number a e called is h = h ∙ ap (method_found p t n b all) (ap (name p) is ∙ named_first p (named_by p n (t n)))
      ∙ ap (λ g. behind_with g b) (sym is_given) ∙ ap (behind_by b) (sym (ap candidate.is_call (sym e) ∙ called))

  module _ (headed : IsHeaded p) (c : ℕ) where
    abbrev on_object : Option (List RowType) → candidate.Candidate
    on_object g = candidate.on_object p t g n shape trace c

    abbrev on_with : Option (List RowType) → Referent
    on_with g = look_with p (world_of p t) (on_object g).left n x sought.MethodOf

    abbrev on_by : Bool → Referent
    on_by call = look_with p (world_of p t) (on_object given).left n x (cond call sought.MethodOf sought.FieldOf)

    abbrev chosen_by : Text → Referent
    chosen_by y = answer_of (at_level None (choice p t c n (Some (class_type c)) all (members_named p t space.Method y c) ++ [])) Unbound

    on_all : chosen_by x ≡ on_with (Some all)
    on_all = refl

    pub called_on : (seeks : Sought) (number : ℕ) (a : Referent) → seeks ≡ sought_at p n → candidate.is_call seeks ≡ true → number ≡ number_by p n (t n)
        → IsAnswerOr (IsFree (Choice p t c n (Some (class_type c)) all (MemberNamed p t space.Method (name p number) c))) Unbound a → a ≡ found p t n (candidate.on_object p t given n shape trace c)
    called_on seeks number a e called is h = chosen_found p t headed n all (name p number) c (Some (class_type c)) a h
        ∙ ap chosen_by (ap (name p) is ∙ named_first p (named_by p n (t n))) ∙ on_all
        ∙ ap on_with (sym is_given) ∙ ap on_by (sym (ap candidate.is_call (sym e) ∙ called))

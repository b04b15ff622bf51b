-- The answer at a place, by what is sought there.
use Rattle.std.proofs.Common.{◌≡◌, refl, sym, ◌∙◌, ap, subst, arith, ℕ, ◌+◌, cond, List, Option, Some, None, unwrap_or, nat_eq, bytes_eq}
use Rattle.std.proofs.lemmas.Bool.Decides.{same_from_decides}
use Rattle.std.proofs.lemmas.Option.{none-some, same_Some}
use Rattle.std.proofs.lemmas.Slice.Eq.{bytes_eq-Decides}
use Rattle.jr_base.specs.declared.text.Text.{Text}
use Rattle.jr_tree.specs.declared.tree.ThisOrSuper.{ThisOrSuper}
use Rattle.jr_tree.specs.declared.label.NameKind.{NameKind}
use Rattle.jr_tree.specs.declared.label.NameKind.TheVariants as names
use Rattle.jr_tree.specs.declared.label.Sought.{Sought}
use Rattle.jr_tree.specs.declared.label.Sought.TheVariants as sought
use Rattle.jr_tree.specs.Rows.{Rows, name, parent}
use Rattle.jr_defs.specs.declared.referent.Space.TheVariants as space
use Rattle.jr_defs.specs.declared.referent.RowType.{RowType}
use Rattle.jr_defs.specs.declared.referent.Referent.{Referent}
use Rattle.jr_defs.specs.declared.referent.Referent.TheVariants.{Unbound}
use Rattle.jr_defs.specs.Referents.{Table, IsAnswer}
use Rattle.jr_defs.specs.Enclosing.{ConstructorOf}
use Rattle.jr_defs.specs.Types.{NamesType}
use Rattle.jr_defs.specs.Members.{MemberNamed}
use Rattle.jr_defs.specs.Overloads.{Choice}
use Rattle.jr_defs.specs.Lookup.{SimpleCandidate, SuperOf, Arguments, MethodCandidate, MayBePackage, MayBeLength, Candidate, IsPackageName, Otherwise, LookFor}
use Rattle.jr_defs.specs.Lookup.{Receiver as ReceiverOf}
use Rattle.jr_defs.specs.Correspondence.{IsCall}
use Rattle.jr_plain.specs.Search.{first_below, Finds}
use Rattle.jr_plain.specs.Types.{referred_type, named_type}
use Rattle.jr_plain.proofs.Searches.{finds_first}
use Rattle.jr_plain.proofs.Typed.{named_finds}
use Rattle.jr_places.specs.Names.{name_row}
use Rattle.jr_places.proofs.Packing.{name_tells}
use Rattle.jr_lookup.specs.declared.qualified.Receiver.{Receiver}
use Rattle.jr_lookup.specs.declared.simple.Sight.{Sight}
use Rattle.jr_lookup.specs.Answers.{simple_otherwise, IsOwnClass, IsLabelAt, IsSuperField, IsFree, IsCreated, IsCalled}
use Rattle.jr_lookup.specs.Outward.{IsNumberOf}
use Rattle.jr_lookup.specs.Behind.{receiver_with, CanLook}
use Rattle.jr_lookup.specs.Calls.{CanSee, NeedsTypes}
use Rattle.jr_lookup.proofs.Calling.{answer_same}

-- ---- the name of a row, and what the row right behind a place refers to

pub named_first : (p : Rows) (n : ℕ) → name p (name_row p n) ≡ name p n
named_first p n = by (first_below n (λ k. bytes_eq (name p n) (name p k))) refl
  where
    by : (o : Option ℕ) → first_below n (λ k. bytes_eq (name p n) (name p k)) ≡ o → name p (unwrap_or o n) ≡ name p n
    by (Some k) e = sym ((finds_first (λ k. bytes_eq (name p n) (name p k)) (λ k. name p n ≡ name p k) (λ k. bytes_eq-Decides (name p n) (name p k)) n k).0 e).1
    by None e = refl

pub number_of : (p : Rows) (o : ℕ) → IsNumberOf p (name_row p o) (name p o)
number_of p o d = same_from_decides (nat_eq (name_row p d) (name_row p o)) (bytes_eq (name p d) (name p o)) (name_tells p d o) (bytes_eq-Decides (name p d) (name p o))

pub named_behind : (p : Rows) (t seen : Table) (o : ℕ) (found : Option ℕ) → found ≡ named_type p seen o → seen (o + 1) ≡ t (o + 1) → Finds found (λ c. NamesType p t o c)
named_behind p t seen o found is same = subst (λ f. Finds f (λ c. NamesType p t o c)) (sym here) (named_finds p t o)
  where
    here : found ≡ named_type p t o
    here = is ∙ ap (λ r. cond (nat_eq (parent p (o + 1)) o) (referred_type p r) None) same

-- ---- where there is no candidate

module _ (p : Rows) (t : Table) (K : ℕ → Type 0) (o : ℕ) (x : Text) where
  unbound_at : (s : Sought) → (IsPackageName p t o s → ⊥) → (MayBeLength s → ⊥) → Otherwise p t K o x s Unbound
  unbound_at s unnamed short = Otherwise.unbound unnamed (λ h. short h.allowed)

  simple_package : {k : NameKind} → IsPackageName p t o (sought.Simple k) → MayBePackage k
  simple_package (IsPackageName.simple h) = h

  simple_other : (k : NameKind) → Otherwise p t K o x (sought.Simple k) (simple_otherwise k)
  simple_other names.Variable = unbound_at (sought.Simple names.Variable) (λ h. simple_package h) (λ h. h)
  simple_other names.Type = unbound_at (sought.Simple names.Type) (λ h. simple_package h) (λ h. h)
  simple_other names.PackageOrType = Otherwise.package_name (IsPackageName.simple tt)
  simple_other names.Ambiguous = Otherwise.package_name (IsPackageName.simple tt)
  simple_other names.Package = unbound_at (sought.Simple names.Package) (λ h. simple_package h) (λ h. h)

  call_other : (s : Sought) → IsCall s → Otherwise p t K o x s Unbound
  call_other sought.Method h = unbound_at sought.Method (λ h. elim h [ ]) (λ h. h)
  call_other sought.MethodOf h = unbound_at sought.MethodOf (λ h. elim h [ ]) (λ h. h)
  call_other sought.SuperMethod h = unbound_at sought.SuperMethod (λ h. elim h [ ]) (λ h. h)
  call_other sought.Creation h = unbound_at sought.Creation (λ h. elim h [ ]) (λ h. h)
  call_other (sought.ConstructorCall w) h = unbound_at (sought.ConstructorCall w) (λ h. elim h [ ]) (λ h. h)
  call_other (sought.Simple k) h = absurd h
  call_other (sought.Qualified k) h = absurd h
  call_other sought.FieldOf h = absurd h
  call_other sought.SuperField h = absurd h
  call_other sought.OwnClass h = absurd h
  call_other sought.Label h = absurd h
  call_other sought.Nothing h = absurd h

  -- ---- an answer of candidates that are those of the place

  answer_as : (E : ℕ → Option ℕ → Type 0) (s : Sought) (otherwise : Referent) → ((d : ℕ) (l : Option ℕ) → E d l → Candidate p t K o x s d l) → ((d : ℕ) (l : Option ℕ) → Candidate p t K o x s d l → E d l)
      → Otherwise p t K o x s otherwise → (a : Referent) → IsAnswer E (λ b. b ≡ otherwise) a → LookFor p t K o x s a
  answer_as E s otherwise f g other = answer_same E (Candidate p t K o x s) (λ b. b ≡ otherwise) (Otherwise p t K o x s) f g (λ b is. subst (λ b. Otherwise p t K o x s b) (sym is) other)

  free : (s : Sought) (d : ℕ) (l : Option ℕ) → l ≡ None → Candidate p t K o x s d None → Candidate p t K o x s d l
  free s d l is h = subst (λ l. Candidate p t K o x s d l) (sym is) h

  pub no_call : (s : Sought) → IsCall s → ((d : ℕ) (l : Option ℕ) → Candidate p t K o x s d l → ⊥) → LookFor p t K o x s Unbound
  no_call s call never = IsAnswer.none never (call_other s call)

  -- ---- names without a dot, super, constructors, labels

  simple_into : (k : NameKind) (d : ℕ) (l : Option ℕ) → Candidate p t K o x (sought.Simple k) d l → SimpleCandidate p t x o k d l
  simple_into k d l (Candidate.simple h) = h

  pub simple_looked : (k : NameKind) (a : Referent) → IsAnswer (λ d l. SimpleCandidate p t x o k d l) (λ b. b ≡ simple_otherwise k) a → LookFor p t K o x (sought.Simple k) a
  simple_looked k = answer_as (λ d l. SimpleCandidate p t x o k d l) (sought.Simple k) (simple_otherwise k) (λ d l h. Candidate.simple h) (simple_into k) (simple_other k)

  super_into : (d : ℕ) (l : Option ℕ) → Candidate p t K o x sought.SuperField d l → IsSuperField p t x o d l
  super_into d _ (Candidate.super_field {s = s} above member) = record { class = s; super_of = above; member = member; free = refl }

  pub super_looked : (a : Referent) → IsAnswer (λ d l. IsSuperField p t x o d l) (λ b. b ≡ Unbound) a → LookFor p t K o x sought.SuperField a
  super_looked = answer_as (λ d l. IsSuperField p t x o d l) sought.SuperField Unbound (λ d l h. free sought.SuperField d l h.free (Candidate.super_field h.super_of h.member)) super_into
      (unbound_at sought.SuperField (λ h. elim h [ ]) (λ h. h))

  own_into : (d : ℕ) (l : Option ℕ) → Candidate p t K o x sought.OwnClass d l → IsOwnClass p o d l
  own_into d _ (Candidate.own_class h) = record { body = h; free = refl }

  pub own_looked : (a : Referent) → IsAnswer (λ d l. IsOwnClass p o d l) (λ b. b ≡ Unbound) a → LookFor p t K o x sought.OwnClass a
  own_looked = answer_as (λ d l. IsOwnClass p o d l) sought.OwnClass Unbound (λ d l h. free sought.OwnClass d l h.free (Candidate.own_class h.body)) own_into
      (unbound_at sought.OwnClass (λ h. elim h [ ]) (λ h. h))

  label_into : (d : ℕ) (l : Option ℕ) → Candidate p t K o x sought.Label d l → IsLabelAt p t x o d l
  label_into d _ (Candidate.labeled {depth = depth} h) = record { depth = depth; in_scope = h; free = refl }

  pub label_looked : (a : Referent) → IsAnswer (λ d l. IsLabelAt p t x o d l) (λ b. b ≡ Unbound) a → LookFor p t K o x sought.Label a
  label_looked = answer_as (λ d l. IsLabelAt p t x o d l) sought.Label Unbound (λ d l h. free sought.Label d l h.free (Candidate.labeled h.in_scope)) label_into
      (unbound_at sought.Label (λ h. elim h [ ]) (λ h. h))

  pub nothing_looked : LookFor p t K o x sought.Nothing Unbound
  nothing_looked = IsAnswer.none (λ d l h. elim h [ ]) (unbound_at sought.Nothing (λ h. elim h [ ]) (λ h. h))

  pub looked_as : (s r : Sought) (a : Referent) → r ≡ s → LookFor p t K o x s a → LookFor p t K o x r a
  looked_as s r a is h = subst (λ s. LookFor p t K o x s a) (sym is) h

  -- ---- calls, by the types of the arguments

  arguments_of : (s : Sought) → IsCall s → (d : ℕ) (l : Option ℕ) → Candidate p t K o x s d l → (all : List RowType) × Arguments p t K o all
  arguments_of sought.Method call d l (Candidate.method {all = all} a h) = (all, a)
  arguments_of sought.MethodOf call d _ (Candidate.method_of {all = all} r a h) = (all, a)
  arguments_of sought.SuperMethod call d _ (Candidate.super_method {all = all} s a h) = (all, a)
  arguments_of sought.Creation call d l (Candidate.creation {all = all} n v a h) = (all, a)
  arguments_of (sought.ConstructorCall w) call d _ (Candidate.constructor {all = all} k a h) = (all, a)
  arguments_of (sought.Simple k) call d l h = absurd call
  arguments_of (sought.Qualified k) call d l h = absurd call
  arguments_of sought.FieldOf call d l h = absurd call
  arguments_of sought.SuperField call d l h = absurd call
  arguments_of sought.OwnClass call d l h = absurd call
  arguments_of sought.Label call d l h = absurd call
  arguments_of sought.Nothing call d l h = absurd call

  pub untyped_looked : (s : Sought) → IsCall s → (found : Option (List RowType)) → Finds found (λ all. Arguments p t K o all) → found ≡ None → LookFor p t K o x s Unbound
  untyped_looked s call found f none = no_call s call (λ d l h. let k = arguments_of s call d l h in none-some k.0 (sym none ∙ (f k.0).1 k.1))

  module _ (all : List RowType) (f : Finds (Some all) (λ all. Arguments p t K o all)) where
    here : Arguments p t K o all
    here = (f all).0 refl

    same_all : (more : List RowType) → Arguments p t K o more → more ≡ all
    same_all more a = sym (same_Some all more ((f more).1 a))

    method_into : (d : ℕ) (l : Option ℕ) → Candidate p t K o x sought.Method d l → MethodCandidate p t x o all d l
    method_into d l (Candidate.method {all = more} a h) = subst (λ all. MethodCandidate p t x o all d l) (same_all more a) h

    pub method_looked : (a : Referent) → IsAnswer (λ d l. MethodCandidate p t x o all d l) (λ b. b ≡ Unbound) a → LookFor p t K o x sought.Method a
    method_looked = answer_as (λ d l. MethodCandidate p t x o all d l) sought.Method Unbound (λ d l h. Candidate.method here h) method_into (call_other sought.Method tt)

    -- ---- methods of a receiver

    abbrev ChosenOf : Receiver → ℕ → Type 0
    ChosenOf r d = Choice p t r.class o r.ty all (MemberNamed p t space.Method x r.class) d

    module _ (found : Option Receiver) (g : Finds found (λ r. ReceiverOf p t K o r.class r.ty)) where
      method_of_into : (r : Receiver) → found ≡ Some r → (d : ℕ) (l : Option ℕ) → Candidate p t K o x sought.MethodOf d l → IsFree (ChosenOf r) d l
      method_of_into r is d _ (Candidate.method_of {c = c} {receiver = ty} {all = more} b a h) = record {
        is = subst (λ r. ChosenOf r d) (same_Some (receiver_with ty c) r (sym ((g (receiver_with ty c)).1 b) ∙ is))
            (subst (λ all. Choice p t c o ty all (MemberNamed p t space.Method x c) d) (same_all more a) h);
        free = refl;
      }

      pub method_of_looked : (r : Receiver) → found ≡ Some r → (a : Referent) → IsAnswer (IsFree (ChosenOf r)) (λ b. b ≡ Unbound) a → LookFor p t K o x sought.MethodOf a
      method_of_looked r is = answer_as (IsFree (ChosenOf r)) sought.MethodOf Unbound (λ d l h. free sought.MethodOf d l h.free (Candidate.method_of ((g r).0 is) here h.is)) (method_of_into r is) (call_other sought.MethodOf tt)

      no_receiver : found ≡ None → (d : ℕ) (l : Option ℕ) → Candidate p t K o x sought.MethodOf d l → ⊥
      no_receiver none d _ (Candidate.method_of {c = c} {receiver = ty} b a h) = none-some (receiver_with ty c) (sym none ∙ (g (receiver_with ty c)).1 b)

      pub method_of_none : found ≡ None → LookFor p t K o x sought.MethodOf Unbound
      method_of_none none = no_call sought.MethodOf tt (no_receiver none)

    module _ (found : Option ℕ) (g : Finds found (λ s. SuperOf p t o s)) where
      abbrev ChosenAbove : ℕ → ℕ → Type 0
      ChosenAbove s d = Choice p t s o None all (MemberNamed p t space.Method x s) d

      super_method_into : (s : ℕ) → found ≡ Some s → (d : ℕ) (l : Option ℕ) → Candidate p t K o x sought.SuperMethod d l → IsFree (ChosenAbove s) d l
      super_method_into s is d _ (Candidate.super_method {s = r} {all = more} b a h) = record {
        is = subst (λ s. ChosenAbove s d) (same_Some r s (sym ((g r).1 b) ∙ is)) (subst (λ all. Choice p t r o None all (MemberNamed p t space.Method x r) d) (same_all more a) h);
        free = refl;
      }

      pub super_method_looked : (s : ℕ) → found ≡ Some s → (a : Referent) → IsAnswer (IsFree (ChosenAbove s)) (λ b. b ≡ Unbound) a → LookFor p t K o x sought.SuperMethod a
      super_method_looked s is = answer_as (IsFree (ChosenAbove s)) sought.SuperMethod Unbound (λ d l h. free sought.SuperMethod d l h.free (Candidate.super_method ((g s).0 is) here h.is)) (super_method_into s is)
          (call_other sought.SuperMethod tt)

      no_super_method : found ≡ None → (d : ℕ) (l : Option ℕ) → Candidate p t K o x sought.SuperMethod d l → ⊥
      no_super_method none d _ (Candidate.super_method {s = r} b a h) = none-some r (sym none ∙ (g r).1 b)

      pub super_method_none : found ≡ None → LookFor p t K o x sought.SuperMethod Unbound
      super_method_none none = no_call sought.SuperMethod tt (no_super_method none)

    -- ---- creations and calls of constructors

    module _ (found : Option ℕ) (g : Finds found (λ c. NamesType p t o c)) where
      creation_into : (c : ℕ) → found ≡ Some c → (d : ℕ) (l : Option ℕ) → Candidate p t K o x sought.Creation d l → IsCreated p t o c all d l
      creation_into c is d l (Candidate.creation {c = e} {all = more} n level a h) = subst (λ c. IsCreated p t o c all d l) (same_Some e c (sym ((g e).1 n) ∙ is))
          (record { level_is = level; chosen = subst (λ all. Choice p t e o None all (ConstructorOf p e) d) (same_all more a) h })

      pub creation_looked : (c : ℕ) → found ≡ Some c → (a : Referent) → IsAnswer (λ d l. IsCreated p t o c all d l) (λ b. b ≡ Unbound) a → LookFor p t K o x sought.Creation a
      creation_looked c is = answer_as (λ d l. IsCreated p t o c all d l) sought.Creation Unbound (λ d l h. Candidate.creation ((g c).0 is) h.level_is here h.chosen) (creation_into c is) (call_other sought.Creation tt)

      no_creation : found ≡ None → (d : ℕ) (l : Option ℕ) → Candidate p t K o x sought.Creation d l → ⊥
      no_creation none d l (Candidate.creation {c = e} n level a h) = none-some e (sym none ∙ (g e).1 n)

      pub creation_none : found ≡ None → LookFor p t K o x sought.Creation Unbound
      creation_none none = no_call sought.Creation tt (no_creation none)

    constructor_into : (w : ThisOrSuper) (d : ℕ) (l : Option ℕ) → Candidate p t K o x (sought.ConstructorCall w) d l → IsCalled p t o w all d l
    constructor_into w d _ (Candidate.constructor {c = c} {all = more} k a h) = record { class = c; called = k; chosen = subst (λ all. Choice p t c o None all (ConstructorOf p c) d) (same_all more a) h; free = refl }

    pub constructor_looked : (w : ThisOrSuper) (a : Referent) → IsAnswer (λ d l. IsCalled p t o w all d l) (λ b. b ≡ Unbound) a → LookFor p t K o x (sought.ConstructorCall w) a
    constructor_looked w = answer_as (λ d l. IsCalled p t o w all d l) (sought.ConstructorCall w) Unbound (λ d l h. free (sought.ConstructorCall w) d l h.free (Candidate.constructor h.called here h.chosen)) (constructor_into w)
        (call_other (sought.ConstructorCall w) tt)

-- ---- what is left

pub is_call : (s : Sought) → ((k : NameKind) → s ≡ sought.Simple k → ⊥) → ((k : NameKind) → s ≡ sought.Qualified k → ⊥) → (s ≡ sought.FieldOf → ⊥) → (s ≡ sought.SuperField → ⊥) → (s ≡ sought.OwnClass → ⊥) → (s ≡ sought.Label → ⊥) → (s ≡ sought.Nothing → ⊥) → IsCall s
is_call (sought.Simple k) a b c d e f g = absurd (a k refl)
is_call (sought.Qualified k) a b c d e f g = absurd (b k refl)
is_call sought.FieldOf a b c d e f g = absurd (c refl)
is_call sought.SuperField a b c d e f g = absurd (d refl)
is_call sought.OwnClass a b c d e f g = absurd (e refl)
is_call sought.Label a b c d e f g = absurd (f refl)
is_call sought.Nothing a b c d e f g = absurd (g refl)
is_call sought.Method a b c d e f g = tt
is_call sought.MethodOf a b c d e f g = tt
is_call sought.SuperMethod a b c d e f g = tt
is_call sought.Creation a b c d e f g = tt
is_call (sought.ConstructorCall w) a b c d e f g = tt

pub is_no_call : (s : Sought) → IsCall s → (s ≡ sought.Method → ⊥) → (s ≡ sought.MethodOf → ⊥) → (s ≡ sought.SuperMethod → ⊥) → (s ≡ sought.Creation → ⊥) → ((w : ThisOrSuper) → s ≡ sought.ConstructorCall w → ⊥) → ⊥
is_no_call sought.Method h a b c d e = a refl
is_no_call sought.MethodOf h a b c d e = b refl
is_no_call sought.SuperMethod h a b c d e = c refl
is_no_call sought.Creation h a b c d e = d refl
is_no_call (sought.ConstructorCall w) h a b c d e = e w refl
is_no_call (sought.Simple k) h a b c d e = absurd h
is_no_call (sought.Qualified k) h a b c d e = absurd h
is_no_call sought.FieldOf h a b c d e = absurd h
is_no_call sought.SuperField h a b c d e = absurd h
is_no_call sought.OwnClass h a b c d e = absurd h
is_no_call sought.Label h a b c d e = absurd h
is_no_call sought.Nothing h a b c d e = absurd h

pub call_needs : (s : Sought) → IsCall s → NeedsTypes s
call_needs sought.Method h = tt
call_needs sought.MethodOf h = tt
call_needs sought.SuperMethod h = tt
call_needs sought.Creation h = tt
call_needs (sought.ConstructorCall w) h = tt
call_needs (sought.Simple k) h = absurd h
call_needs (sought.Qualified k) h = absurd h
call_needs sought.FieldOf h = absurd h
call_needs sought.SuperField h = absurd h
call_needs sought.OwnClass h = absurd h
call_needs sought.Label h = absurd h
call_needs sought.Nothing h = absurd h

-- where the types of all that stands behind a place are known, all else is
pub can_see : (t : Table) (sight : Sight) (types : List (Option RowType)) (place : ℕ) → CanLook t sight types place → CanSee t sight place
can_see t sight types place k = record { sight_is = k.sight_is; placed = k.placed; inside = k.inside; same = k.seen (place + 1) (omega arith) }

-- Renamings after each other, and the renaming that changes nothing.
use Rattle.std.proofs.Common.{◌≡◌, refl, ap, ◌∙◌, List, [], ◌∷◌, map, Option, Some, None}
use Rattle.std.specs.Option.{option_map}
use Rattle.jr_base.specs.declared.ids.DeclId.{DeclId}
use Rattle.jr_base.specs.Mirror as t
use Rattle.jr_core.specs.declared.bodies.Class.{Class}
use Rattle.jr_core.specs.Mirror as m
use Rattle.jr_core.specs.Mirror.{Body, Core}
use Rattle.jr_machine_defs.specs.Renamed.{IsRenaming, renamed_type, renamed_ty, renamed_code, renamed_codes, renamed_any_code, renamed_any_codes, renamed_group, renamed_groups, renamed_catch, renamed_catches, renamed_pair, renamed_class, renamed_body, renamed_core}

-- ---- after each other

pub composed : (f g : DeclId → DeclId) → IsRenaming f → IsRenaming g → IsRenaming (λ d. g (f d))
composed f g p q = record {
  one_to_one = λ a b e. p.one_to_one a b (q.one_to_one (f a) (f b) e);
  keeps_own = λ d own. ap g (p.keeps_own d own) ∙ q.keeps_own d own;
}

maps_twice : {X : Type 0} (g h k : X → X) → ((x : X) → g (h x) ≡ k x) → (all : List X) → map g (map h all) ≡ map k all
maps_twice g h k e [] = refl
maps_twice g h k e (x ∷ all) = rw (e x, maps_twice g h k e all) refl

options_twice : {X : Type 0} (g h k : X → X) → ((x : X) → g (h x) ≡ k x) → (any : Option X) → option_map g (option_map h any) ≡ option_map k any
options_twice g h k e None = refl
options_twice g h k e (Some x) = ap Some (e x)

twice_option : (f g : DeclId → DeclId) (any : Option DeclId) → option_map g (option_map f any) ≡ option_map (λ d. g (f d)) any
twice_option f g any = options_twice g f (λ d. g (f d)) (λ d. refl) any

twice_ty : (f g : DeclId → DeclId) (x : t.Ty) → renamed_ty g (renamed_ty f x) ≡ renamed_ty (λ d. g (f d)) x
twice_ty f g (t.Array item) = ap t.Array (twice_ty f g item)
twice_ty f g x = refl

mutual
  pub twice_code : (f g : DeclId → DeclId) (x : m.Code) → renamed_code g (renamed_code f x) ≡ renamed_code (λ d. g (f d)) x
  twice_code f g (m.Assign a b c) = rw (twice_code f g a, twice_code f g c) refl
  twice_code f g (m.Cond a b c) = rw (twice_code f g a, twice_code f g b, twice_code f g c) refl
  twice_code f g (m.AndAlso a b) = rw (twice_code f g a, twice_code f g b) refl
  twice_code f g (m.OrElse a b) = rw (twice_code f g a, twice_code f g b) refl
  twice_code f g (m.Binary a b c) = rw (twice_code f g a, twice_code f g c) refl
  twice_code f g (m.IsA a b) = rw (twice_code f g a, twice_ty f g b) refl
  twice_code f g (m.Unary a b) = rw (twice_code f g b) refl
  twice_code f g (m.Cast a b) = rw (twice_ty f g a, twice_code f g b) refl
  twice_code f g (m.PreStep a b) = rw (twice_code f g b) refl
  twice_code f g (m.PostStep a b) = rw (twice_code f g a) refl
  twice_code f g (m.Lit a) = refl
  twice_code f g (m.This a) = refl
  twice_code f g (m.Var a) = refl
  twice_code f g (m.FieldAt a b) = rw (twice_any_code f g a) refl
  twice_code f g (m.Length a) = rw (twice_code f g a) refl
  twice_code f g (m.Index a b) = rw (twice_code f g a, twice_code f g b) refl
  twice_code f g (m.Call a b c d) = rw (twice_any_code f g a, twice_codes f g d) refl
  twice_code f g (m.New a b c) = rw (twice_any_code f g a, twice_codes f g c) refl
  twice_code f g (m.NewArray a b c) = rw (twice_ty f g a, twice_codes f g b, twice_any_codes f g c) refl
  twice_code f g (m.Show a) = rw (twice_code f g a) refl
  twice_code f g (m.Nest a) = rw (twice_codes f g a) refl
  twice_code f g (m.Local a b) = rw (twice_any_code f g b) refl
  twice_code f g m.Skip = refl
  twice_code f g (m.Do a b) = rw (twice_code f g a, twice_code f g b) refl
  twice_code f g (m.While a b) = rw (twice_code f g a, twice_code f g b) refl
  twice_code f g (m.If a b c) = rw (twice_code f g a, twice_code f g b, twice_any_code f g c) refl
  twice_code f g (m.Eval a) = rw (twice_code f g a) refl
  twice_code f g (m.For a b c d) = rw (twice_codes f g a, twice_any_code f g b, twice_codes f g c, twice_code f g d) refl
  twice_code f g (m.Switch a b) = rw (twice_code f g a, twice_groups f g b) refl
  twice_code f g (m.Labeled a b) = rw (twice_code f g b) refl
  twice_code f g (m.Break a) = rw (twice_option f g a) refl
  twice_code f g (m.Continue a) = rw (twice_option f g a) refl
  twice_code f g (m.Return a) = rw (twice_any_code f g a) refl
  twice_code f g (m.Throw a) = rw (twice_code f g a) refl
  twice_code f g (m.Try a b c) = rw (twice_codes f g a, twice_catches f g b, twice_any_codes f g c) refl
  twice_code f g (m.CtorCall a b c) = rw (twice_codes f g c) refl

  pub twice_group : (f g : DeclId → DeclId) (x : m.Group) → renamed_group g (renamed_group f x) ≡ renamed_group (λ d. g (f d)) x
  twice_group f g (m.GroupOf a b) = rw (twice_codes f g b) refl

  pub twice_catch : (f g : DeclId → DeclId) (x : m.Catch) → renamed_catch g (renamed_catch f x) ≡ renamed_catch (λ d. g (f d)) x
  twice_catch f g (m.CatchOf a b c) = rw (twice_codes f g c) refl

  pub twice_codes : (f g : DeclId → DeclId) (x : m.Codes) → renamed_codes g (renamed_codes f x) ≡ renamed_codes (λ d. g (f d)) x
  twice_codes f g m.no_codes = refl
  twice_codes f g (m.more_codes a b) = rw (twice_code f g a, twice_codes f g b) refl

  pub twice_groups : (f g : DeclId → DeclId) (x : m.Groups) → renamed_groups g (renamed_groups f x) ≡ renamed_groups (λ d. g (f d)) x
  twice_groups f g m.no_groups = refl
  twice_groups f g (m.more_groups a b) = rw (twice_group f g a, twice_groups f g b) refl

  pub twice_catches : (f g : DeclId → DeclId) (x : m.Catches) → renamed_catches g (renamed_catches f x) ≡ renamed_catches (λ d. g (f d)) x
  twice_catches f g m.no_catches = refl
  twice_catches f g (m.more_catches a b) = rw (twice_catch f g a, twice_catches f g b) refl

  pub twice_any_code : (f g : DeclId → DeclId) (x : m.AnyCode) → renamed_any_code g (renamed_any_code f x) ≡ renamed_any_code (λ d. g (f d)) x
  twice_any_code f g m.no_code = refl
  twice_any_code f g (m.a_code a) = rw (twice_code f g a) refl

  pub twice_any_codes : (f g : DeclId → DeclId) (x : m.AnyCodes) → renamed_any_codes g (renamed_any_codes f x) ≡ renamed_any_codes (λ d. g (f d)) x
  twice_any_codes f g m.no_list = refl
  twice_any_codes f g (m.a_list a) = rw (twice_codes f g a) refl

twice_class : (f g : DeclId → DeclId) (c : Class) → renamed_class g (renamed_class f c) ≡ renamed_class (λ d. g (f d)) c
twice_class f g c =
    rw (
      options_twice (renamed_type g) (renamed_type f) (renamed_type (λ d. g (f d))) (λ x. refl) c.parent,
      maps_twice (renamed_type g) (renamed_type f) (renamed_type (λ d. g (f d))) (λ x. refl) c.faces,
      options_twice (renamed_type g) (renamed_type f) (renamed_type (λ d. g (f d))) (λ x. refl) c.outer,
      maps_twice g f (λ d. g (f d)) (λ x. refl) c.members,
      maps_twice (renamed_pair g) (renamed_pair f) (renamed_pair (λ d. g (f d))) (λ x. refl) c.found,
    ) refl

twice_body : (f g : DeclId → DeclId) (b : Body) → renamed_body g (renamed_body f b) ≡ renamed_body (λ d. g (f d)) b
twice_body f g b = rw (twice_ty f g b.ty, maps_twice g f (λ d. g (f d)) (λ x. refl) b.params, twice_codes f g b.code) refl

pub twice_core : (f g : DeclId → DeclId) (core : Core) → renamed_core g (renamed_core f core) ≡ renamed_core (λ d. g (f d)) core
twice_core f g core =
    rw (
      maps_twice (renamed_class g) (renamed_class f) (renamed_class (λ d. g (f d))) (twice_class f g) core.classes,
      maps_twice (renamed_body g) (renamed_body f) (renamed_body (λ d. g (f d))) (twice_body f g) core.bodies,
    ) refl

-- ---- the renaming that changes nothing

pub nothing_renamed : IsRenaming (λ d. d)
nothing_renamed = record { one_to_one = λ a b e. e; keeps_own = λ d own. refl }

map_stays : {X : Type 0} (g : X → X) → ((x : X) → g x ≡ x) → (all : List X) → map g all ≡ all
map_stays g e [] = refl
map_stays g e (x ∷ all) = rw (e x, map_stays g e all) refl

option_stays : {X : Type 0} (g : X → X) → ((x : X) → g x ≡ x) → (any : Option X) → option_map g any ≡ any
option_stays g e None = refl
option_stays g e (Some x) = ap Some (e x)

stays_option : (any : Option DeclId) → option_map (λ d. d) any ≡ any
stays_option any = option_stays (λ d. d) (λ d. refl) any

stays_ty : (x : t.Ty) → renamed_ty (λ d. d) x ≡ x
stays_ty (t.Array item) = ap t.Array (stays_ty item)
stays_ty x = refl

mutual
  pub stays_code : (x : m.Code) → renamed_code (λ d. d) x ≡ x
  stays_code (m.Assign a b c) = rw (stays_code a, stays_code c) refl
  stays_code (m.Cond a b c) = rw (stays_code a, stays_code b, stays_code c) refl
  stays_code (m.AndAlso a b) = rw (stays_code a, stays_code b) refl
  stays_code (m.OrElse a b) = rw (stays_code a, stays_code b) refl
  stays_code (m.Binary a b c) = rw (stays_code a, stays_code c) refl
  stays_code (m.IsA a b) = rw (stays_code a, stays_ty b) refl
  stays_code (m.Unary a b) = rw (stays_code b) refl
  stays_code (m.Cast a b) = rw (stays_ty a, stays_code b) refl
  stays_code (m.PreStep a b) = rw (stays_code b) refl
  stays_code (m.PostStep a b) = rw (stays_code a) refl
  stays_code (m.Lit a) = refl
  stays_code (m.This a) = refl
  stays_code (m.Var a) = refl
  stays_code (m.FieldAt a b) = rw (stays_any_code a) refl
  stays_code (m.Length a) = rw (stays_code a) refl
  stays_code (m.Index a b) = rw (stays_code a, stays_code b) refl
  stays_code (m.Call a b c d) = rw (stays_any_code a, stays_codes d) refl
  stays_code (m.New a b c) = rw (stays_any_code a, stays_codes c) refl
  stays_code (m.NewArray a b c) = rw (stays_ty a, stays_codes b, stays_any_codes c) refl
  stays_code (m.Show a) = rw (stays_code a) refl
  stays_code (m.Nest a) = rw (stays_codes a) refl
  stays_code (m.Local a b) = rw (stays_any_code b) refl
  stays_code m.Skip = refl
  stays_code (m.Do a b) = rw (stays_code a, stays_code b) refl
  stays_code (m.While a b) = rw (stays_code a, stays_code b) refl
  stays_code (m.If a b c) = rw (stays_code a, stays_code b, stays_any_code c) refl
  stays_code (m.Eval a) = rw (stays_code a) refl
  stays_code (m.For a b c d) = rw (stays_codes a, stays_any_code b, stays_codes c, stays_code d) refl
  stays_code (m.Switch a b) = rw (stays_code a, stays_groups b) refl
  stays_code (m.Labeled a b) = rw (stays_code b) refl
  stays_code (m.Break a) = rw (stays_option a) refl
  stays_code (m.Continue a) = rw (stays_option a) refl
  stays_code (m.Return a) = rw (stays_any_code a) refl
  stays_code (m.Throw a) = rw (stays_code a) refl
  stays_code (m.Try a b c) = rw (stays_codes a, stays_catches b, stays_any_codes c) refl
  stays_code (m.CtorCall a b c) = rw (stays_codes c) refl

  pub stays_group : (x : m.Group) → renamed_group (λ d. d) x ≡ x
  stays_group (m.GroupOf a b) = rw (stays_codes b) refl

  pub stays_catch : (x : m.Catch) → renamed_catch (λ d. d) x ≡ x
  stays_catch (m.CatchOf a b c) = rw (stays_codes c) refl

  pub stays_codes : (x : m.Codes) → renamed_codes (λ d. d) x ≡ x
  stays_codes m.no_codes = refl
  stays_codes (m.more_codes a b) = rw (stays_code a, stays_codes b) refl

  pub stays_groups : (x : m.Groups) → renamed_groups (λ d. d) x ≡ x
  stays_groups m.no_groups = refl
  stays_groups (m.more_groups a b) = rw (stays_group a, stays_groups b) refl

  pub stays_catches : (x : m.Catches) → renamed_catches (λ d. d) x ≡ x
  stays_catches m.no_catches = refl
  stays_catches (m.more_catches a b) = rw (stays_catch a, stays_catches b) refl

  pub stays_any_code : (x : m.AnyCode) → renamed_any_code (λ d. d) x ≡ x
  stays_any_code m.no_code = refl
  stays_any_code (m.a_code a) = rw (stays_code a) refl

  pub stays_any_codes : (x : m.AnyCodes) → renamed_any_codes (λ d. d) x ≡ x
  stays_any_codes m.no_list = refl
  stays_any_codes (m.a_list a) = rw (stays_codes a) refl

stays_class : (c : Class) → renamed_class (λ d. d) c ≡ c
stays_class c =
    rw (
      option_stays (renamed_type (λ d. d)) (λ x. refl) c.parent,
      map_stays (renamed_type (λ d. d)) (λ x. refl) c.faces,
      option_stays (renamed_type (λ d. d)) (λ x. refl) c.outer,
      map_stays (λ d. d) (λ x. refl) c.members,
      map_stays (renamed_pair (λ d. d)) (λ x. refl) c.found,
    ) refl

stays_body : (b : Body) → renamed_body (λ d. d) b ≡ b
stays_body b = rw (stays_ty b.ty, map_stays (λ d. d) (λ x. refl) b.params, stays_codes b.code) refl

pub stays_core : (core : Core) → renamed_core (λ d. d) core ≡ core
stays_core core = rw (map_stays (renamed_class (λ d. d)) stays_class core.classes, map_stays (renamed_body (λ d. d)) stays_body core.bodies) refl

-- When all names of the changed class keep their declarations, which one is lost first, and when the rule is broken.
use Rattle.std.proofs.Common.{◌≡◌, ◌≢◌, ◌⊎◌, inl, inr, ℕ, ◌<◌, ◌≤◌, List, length, Some, None, Option, refl, sym, ap, subst, ◌∙◌, arith}
use Rattle.std.specs.Prelude.{slice_index_or}
use Rattle.std.proofs.lemmas.Bool.{cases_eq, cases_lt}
use Rattle.jr_thin.specs.declared.sites.Site.{Site}
use Rattle.jr_thin.specs.declared.sites.Role.{Role}
use Rattle.jr_thin.specs.declared.sites.Role.TheVariants.{Plain, Param, Local, Use}
use Rattle.jr_thin.specs.Sites.{site_at}
use Rattle.jr_thin.specs.Scopes.{is_declaration, InScope, IsCandidate, IsVisible, IsTarget, IsBinding, RefersTo, Redeclares, KeepsRule}
use Rattle.jr_thin.specs.Clashes.{IsRespelled, IsClash, AreParams, IsLostUse}
use Rattle.jr_thin.proofs.ScopeLemmas.{twins, redeclares, not_plain, not_use, declared_inside, name_inside, one_declaration, rule_below, candidate, binds_only}

same_some : (x y : ℕ) → Some x ≡ Some y → x ≡ y
same_some x y e = cc

none_some : {A : Type 0} (x : ℕ) → None ≡ Some x → A
none_some x e = absurd (clash e)
  where
    clash : None ≡ Some x → ⊥
    clash e = cc

plain_use : Plain ≡ Use → ⊥
plain_use e = cc

role_cases : (r : Role) → (r ≡ Plain) ⊎ (is_declaration r ⊎ (r ≡ Use))
role_cases Plain = inl refl
role_cases Param = inr (inl tt)
role_cases Local = inr (inl tt)
role_cases Use = inr (inr refl)

module _ (ss new : List Site) (targets : List (Option ℕ)) (d : ℕ) (name : List ℕ) (binding : IsBinding ss targets) (rule : KeepsRule ss) (respelled : IsRespelled ss new targets d name) (declared : is_declaration (site_at ss d).role) where
  abbrev target : ℕ → Option ℕ
  target i = slice_index_or targets i None

  abbrev Declared : ℕ → Type 0
  Declared i = is_declaration (site_at ss i).role

  -- a declaration refers to itself
  own : (e : ℕ) → Declared e → target e ≡ Some e
  own e is = own_of (target e) refl (binding.each e (declared_inside ss e is))
    where
      own_of : (o : Option ℕ) → target e ≡ o → IsTarget ss e o → target e ≡ Some e
      own_of None eq plain = absurd (not_plain _ is plain)
      own_of (Some x) eq refers = elim refers [ inl self ↦ eq ∙ ap Some self.1 | inr binds ↦ absurd (not_use _ is binds.is_use) ]

  own_new : Declared d → (site_at new d).text ≡ name
  own_new is = respelled.chosen d (own d is)

  other_new : (e : ℕ) → Declared e → e ≢ d → (site_at new e).text ≡ (site_at ss e).text
  other_new e is apart = respelled.kept e (λ same. apart (same_some e d (sym (own e is) ∙ same)))

  -- what a use binds to
  pub record Used (u t : ℕ) : Type 0 where
    pub is : (site_at ss u).role ≡ Use
    pub had : target u ≡ Some t
    pub at : Declared t
    pub method : (site_at ss t).method ≡ (site_at ss u).method
    pub spelling : (site_at ss t).text ≡ (site_at ss u).text
    pub before : t < u

  used : (u : ℕ) → (site_at ss u).role ≡ Use → (t : ℕ) × Used u t
  used u is = used_of (target u) refl (binding.each u (name_inside ss u (λ p. plain_use (sym p ∙ is))))
    where
      used_of : (o : Option ℕ) → target u ≡ o → IsTarget ss u o → (t : ℕ) × Used u t
      used_of None eq plain = absurd (plain_use (sym plain ∙ is))
      used_of (Some t) eq refers =
          elim refers [
            | inl self ↦ absurd (not_use _ self.0 is)
            | inr binds ↦
                let c = binds.visible.candidate in
                (t, record { is = is; had = eq; at = c.scope.declared; method = c.scope.method; spelling = c.spelling; before = c.scope.after })
          ]

  use_chosen : (u t : ℕ) → Used u t → t ≡ d → (site_at new u).text ≡ name
  use_chosen u t w same = respelled.chosen u (w.had ∙ ap Some same)

  use_kept : (u t : ℕ) → Used u t → t ≢ d → (site_at new u).text ≡ (site_at ss u).text
  use_kept u t w apart = respelled.kept u (λ same. apart (same_some t d (sym w.had ∙ same)))

  -- a candidate in the changed class, in the terms of the old one
  pub record Seen (u f : ℕ) : Type 0 where
    pub at : Declared f
    pub method : (site_at ss f).method ≡ (site_at ss u).method
    pub spelling : (site_at new f).text ≡ (site_at new u).text
    pub before : f < u

  seen : (u f : ℕ) → IsCandidate new u f → Seen u f
  seen u f c = record { at = subst is_declaration (respelled.role f) c.scope.declared; method = sym (respelled.method f) ∙ c.scope.method ∙ respelled.method u; spelling = c.spelling; before = c.scope.after }

  candidate_new : (u f : ℕ) → (site_at ss u).role ≡ Use → Seen u f → IsCandidate new u f
  candidate_new u f is s =
      candidate new u f (respelled.role u ∙ is) (subst is_declaration (sym (respelled.role f)) s.at) (respelled.method f ∙ s.method ∙ sym (respelled.method u)) s.spelling s.before

  -- the target of a use is still a candidate
  target_seen : (u t : ℕ) → Used u t → Seen u t
  target_seen u t w =
      record {
        at = w.at;
        method = w.method;
        spelling = elim (cases_eq t d) [
          | inl same ↦ ap (λ n. (site_at new n).text) same ∙ own_new declared ∙ sym (use_chosen u t w same)
          | inr apart ↦ other_new t w.at apart ∙ w.spelling ∙ sym (use_kept u t w apart)
        ];
        before = w.before;
      }

  kept_alone : (u t : ℕ) → Used u t → ((f : ℕ) → Seen u f → f ≡ t) → IsTarget new u (target u)
  kept_alone u t w only =
      subst (IsTarget new u) (sym w.had) (inr (binds_only new u t (respelled.role u ∙ w.is) (candidate_new u t w.is (target_seen u t w)) (λ f c. only f (seen u f c))))

  -- one name in one method is one declaration
  one : (e f : ℕ) → Declared e → Declared f → (site_at ss e).method ≡ (site_at ss f).method → (site_at ss e).text ≡ (site_at ss f).text → e ≡ f
  one e f e_is f_is method spelling = one_declaration ss (length ss) e f (rule_below ss (length ss) rule) (declared_inside ss e e_is) (declared_inside ss f f_is) e_is f_is method spelling

  kept_plain : (i : ℕ) → i < length ss → (site_at ss i).role ≡ Plain → IsTarget new i (target i)
  kept_plain i inside is = plain_of (target i) (binding.each i inside)
    where
      plain_of : (o : Option ℕ) → IsTarget ss i o → IsTarget new i o
      plain_of None plain = respelled.role i ∙ plain
      plain_of (Some x) refers = elim refers [ inl self ↦ absurd (not_plain _ self.0 is) | inr binds ↦ absurd (plain_use (sym is ∙ binds.is_use)) ]

  kept_declaration : (i : ℕ) → Declared i → IsTarget new i (target i)
  kept_declaration i is = subst (IsTarget new i) (sym (own i is)) (inl (subst is_declaration (sym (respelled.role i)) is, refl))

  kept_name : (i : ℕ) → i < length ss → ((site_at ss i).role ≡ Use → IsTarget new i (target i)) → IsTarget new i (target i)
  kept_name i inside uses =
      elim (role_cases (site_at ss i).role) [
        | inl plain ↦ kept_plain i inside plain
        | inr other ↦ elim other [ inl is ↦ kept_declaration i is | inr is ↦ uses is ]
      ]

  -- two declarations of one name in the changed class
  pub record NewTwins (e f : ℕ) : Type 0 where
    pub first : Declared e
    pub second : Declared f
    pub method : (site_at ss e).method ≡ (site_at ss f).method
    pub spelling : (site_at new e).text ≡ (site_at new f).text
    pub order : e < f

  new_twins : (e f : ℕ) → Redeclares new e f → NewTwins e f
  new_twins e f r =
      let t = twins new e f r in
      record { first = subst is_declaration (respelled.role e) t.first; second = subst is_declaration (respelled.role f) t.second; method = sym (respelled.method e) ∙ t.method ∙ respelled.method f; spelling = t.spelling; order = t.order }

  redeclares_new : (e f : ℕ) → NewTwins e f → Redeclares new e f
  redeclares_new e f t =
      redeclares new e f (record { first = subst is_declaration (sym (respelled.role e)) t.first; second = subst is_declaration (sym (respelled.role f)) t.second; method = respelled.method e ∙ t.method ∙ sym (respelled.method f); spelling = t.spelling; order = t.order })

  -- no other declaration of the method has the name
  module _ (free : (e : ℕ) → IsClash ss name d e → ⊥) where
    -- the declarations of one new name are one
    one_new : (e f : ℕ) → Declared e → Declared f → (site_at ss e).method ≡ (site_at ss f).method → (site_at new e).text ≡ (site_at new f).text → e ≡ f
    one_new e f e_is f_is method spelling =
        elim (cases_eq e d) [
          | inl e_d ↦ elim (cases_eq f d) [
            | inl f_d ↦ e_d ∙ sym f_d
            | inr apart ↦ absurd (free f (record { declared = f_is; method = sym method ∙ ap (λ n. (site_at ss n).method) e_d; spelling = sym (other_new f f_is apart) ∙ sym spelling ∙ ap (λ n. (site_at new n).text) e_d ∙ own_new declared; apart = apart }))
          ]
          | inr e_apart ↦ elim (cases_eq f d) [
            | inl f_d ↦ absurd (free e (record { declared = e_is; method = method ∙ ap (λ n. (site_at ss n).method) f_d; spelling = sym (other_new e e_is e_apart) ∙ spelling ∙ ap (λ n. (site_at new n).text) f_d ∙ own_new declared; apart = e_apart }))
            | inr f_apart ↦ one e f e_is f_is method (sym (other_new e e_is e_apart) ∙ spelling ∙ other_new f f_is f_apart)
          ]
        ]

    pub free_kept : (i : ℕ) → i < length ss → IsTarget new i (target i)
    free_kept i inside = kept_name i inside (λ is.
        let found = used i is in
        let t = found.0 in
        let w = found.1 in
        kept_alone i t w (λ f s. one_new f t s.at w.at (s.method ∙ sym w.method) (s.spelling ∙ sym (target_seen i t w).spelling)))

    pub free_rule : KeepsRule new
    free_rule e f r =
        let t = new_twins e f r in
        let same : e ≡ f = one_new e f t.first t.second t.method t.spelling in
        let less : e < f = t.order in
        absurd (omega arith)

  -- another declaration of the method has the name: first and last are that one and the renamed one
  module _ (e first last : ℕ) (clash : IsClash ss name d e) (pair : ((first ≡ d) × (last ≡ e)) ⊎ ((first ≡ e) × (last ≡ d))) (order : first < last) where
    -- what holds of both holds of each
    of_first : (P : ℕ → Type 0) → P d → P e → P first
    of_first P at_d at_e = elim pair [ inl p ↦ subst P (sym p.0) at_d | inr p ↦ subst P (sym p.0) at_e ]

    of_last : (P : ℕ → Type 0) → P d → P e → P last
    of_last P at_d at_e = elim pair [ inl p ↦ subst P (sym p.1) at_e | inr p ↦ subst P (sym p.1) at_d ]

    abbrev Named : ℕ → Type 0
    Named f = Declared f × ((site_at ss f).method ≡ (site_at ss d).method) × ((site_at new f).text ≡ name)

    named_d : Named d
    named_d = (declared, refl, own_new declared)

    named_e : Named e
    named_e = (clash.declared, clash.method, other_new e clash.declared clash.apart ∙ clash.spelling)

    named_first : Named first
    named_first = of_first Named named_d named_e

    named_last : Named last
    named_last = of_last Named named_d named_e

    -- no other declaration of the method has that name
    both : (f : ℕ) → Named f → (f ≡ first) ⊎ (f ≡ last)
    both f named =
        elim (cases_eq f d) [
          | inl same ↦ elim pair [ inl p ↦ inl (same ∙ sym p.0) | inr p ↦ inr (same ∙ sym p.1) ]
          | inr apart ↦
              let is : f ≡ e = one f e named.0 clash.declared (named.1 ∙ sym clash.method) (sym (other_new f named.0 apart) ∙ named.2 ∙ sym clash.spelling) in
              elim pair [ inl p ↦ inr (is ∙ sym p.1) | inr p ↦ inl (is ∙ sym p.0) ]
        ]

    pub clash_redeclares : Redeclares new first last
    clash_redeclares = redeclares_new first last (record { first = named_first.0; second = named_last.0; method = named_first.1 ∙ sym named_last.1; spelling = named_first.2 ∙ sym named_last.2; order = order })

    -- the only place where the rule is broken
    pub clash_only : (a b : ℕ) → Redeclares new a b → b ≡ last
    clash_only a b r =
        let t = new_twins a b r in
        let less : a < b = t.order in
        let named_b : Named b = named_of a b t in
        elim (both b named_b) [
          | inr is ↦ is
          | inl is ↦
              let named_a : Named a = (t.first, t.method ∙ named_b.1, t.spelling ∙ named_b.2) in
              elim (both a named_a) [ inl a_is ↦ absurd (omega arith) | inr a_is ↦ absurd (omega arith) ]
        ]
      where
        named_of : (a b : ℕ) → NewTwins a b → Named b
        named_of a b t =
            let less : a < b = t.order in
            elim (cases_eq b d) [
              | inl same ↦ subst Named (sym same) named_d
              | inr b_apart ↦ elim (cases_eq a d) [
                | inl same ↦ (t.second, sym t.method ∙ ap (λ n. (site_at ss n).method) same, sym t.spelling ∙ ap (λ n. (site_at new n).text) same ∙ own_new declared)
                | inr a_apart ↦ let is : a ≡ b = one a b t.first t.second t.method (sym (other_new a t.first a_apart) ∙ t.spelling ∙ other_new b t.second b_apart) in absurd (omega arith)
              ]
            ]

    -- a use of first or last, and which declarations it sees
    use_named : (u t : ℕ) → Used u t → (t ≡ first) ⊎ (t ≡ last) → (site_at new u).text ≡ name
    use_named u t w which =
        sym (target_seen u t w).spelling ∙ elim which [ inl is ↦ ap (λ n. (site_at new n).text) is ∙ named_first.2 | inr is ↦ ap (λ n. (site_at new n).text) is ∙ named_last.2 ]

    use_method : (u t : ℕ) → Used u t → (t ≡ first) ⊎ (t ≡ last) → (site_at ss u).method ≡ (site_at ss d).method
    use_method u t w which =
        sym w.method ∙ elim which [ inl is ↦ ap (λ n. (site_at ss n).method) is ∙ named_first.1 | inr is ↦ ap (λ n. (site_at ss n).method) is ∙ named_last.1 ]

    sees : (u t f : ℕ) → Used u t → (t ≡ first) ⊎ (t ≡ last) → Seen u f → (f ≡ first) ⊎ (f ≡ last)
    sees u t f w which s = both f (s.at, s.method ∙ use_method u t w which, s.spelling ∙ use_named u t w which)

    seen_of : (u t f : ℕ) → Used u t → (t ≡ first) ⊎ (t ≡ last) → Named f → f < u → Seen u f
    seen_of u t f w which named before = record { at = named.0; method = named.1 ∙ sym (use_method u t w which); spelling = named.2 ∙ sym (use_named u t w which); before = before }

    -- behind the last, it is visible
    last_visible : (u t : ℕ) → Used u t → (t ≡ first) ⊎ (t ≡ last) → last < u → IsVisible new u last
    last_visible u t w which after =
        record {
          candidate = candidate_new u last w.is (seen_of u t last w which named_last after);
          not_shadowed = λ f c inner.
              let less : last < f = inner.after in
              elim (sees u t f w which (seen u f c)) [ inl is ↦ absurd (omega arith) | inr is ↦ absurd (omega arith) ];
        }

    params_apart : AreParams ss first last → InScope new first last → ⊥
    params_apart params inner = inner.body (respelled.role first ∙ params.first_is) (respelled.role last ∙ params.last_is)

    -- two parameters do not shadow one another
    first_visible : (u t : ℕ) → Used u t → (t ≡ first) ⊎ (t ≡ last) → last < u → AreParams ss first last → IsVisible new u first
    first_visible u t w which after params =
        record {
          candidate = candidate_new u first w.is (seen_of u t first w which named_first (omega arith));
          not_shadowed = λ f c inner.
              let less : first < f = inner.after in
              elim (sees u t f w which (seen u f c)) [ inl is ↦ absurd (omega arith) | inr is ↦ params_apart params (subst (InScope new first) is inner) ];
        }

    pub lost_use : (u : ℕ) → IsLostUse ss targets first last u → IsTarget new u (target u) → ⊥
    lost_use u lost refers =
        let found = used u lost.is_use in
        let t = found.0 in
        let w = found.1 in
        let kept : RefersTo new u t = subst (IsTarget new u) w.had refers in
        elim kept [
          | inl self ↦ not_use _ self.0 (respelled.role u ∙ lost.is_use)
          | inr binds ↦ elim lost.had [
            | inl had ↦
                let is : t ≡ first = same_some t first (sym w.had ∙ had) in
                let same : last ≡ t = binds.only last (last_visible u t w (inl is) lost.after) in
                absurd (omega arith)
            | inr had ↦
                let is : t ≡ last = same_some t last (sym w.had ∙ had.0) in
                let same : first ≡ t = binds.only first (first_visible u t w (inr is) lost.after had.1) in
                absurd (omega arith)
          ]
        ]

    -- the last shadows the first
    shadows : (AreParams ss first last → ⊥) → InScope new first last
    shadows apart =
        record {
          declared = subst is_declaration (sym (respelled.role first)) named_first.0;
          name = λ p. not_plain _ named_last.0 (sym (respelled.role last) ∙ p);
          method = respelled.method first ∙ (named_first.1 ∙ sym named_last.1) ∙ sym (respelled.method last);
          after = order;
          body = λ p q. apart (record { first_is = sym (respelled.role first) ∙ p; last_is = sym (respelled.role last) ∙ q });
        }

    -- a use of neither
    neither_kept : (u t : ℕ) → Used u t → t ≢ d → t ≢ e → IsTarget new u (target u)
    neither_kept u t w not_d not_e =
        kept_alone u t w (λ f s.
        let spelled : (site_at new f).text ≡ (site_at ss t).text = s.spelling ∙ use_kept u t w not_d ∙ sym w.spelling in
        elim (cases_eq f d) [
          | inl same ↦ absurd (not_e (one t e w.at clash.declared (w.method ∙ sym s.method ∙ ap (λ n. (site_at ss n).method) same ∙ sym clash.method) (sym spelled ∙ ap (λ n. (site_at new n).text) same ∙ own_new declared ∙ sym clash.spelling)))
          | inr apart ↦ one f t s.at w.at (s.method ∙ sym w.method) (sym (other_new f s.at apart) ∙ spelled)
        ])

    which_of : (t : ℕ) → (t ≡ d) ⊎ (t ≡ e) → (t ≡ first) ⊎ (t ≡ last)
    which_of t which =
        elim pair [
          | inl p ↦ elim which [ inl is ↦ inl (is ∙ sym p.0) | inr is ↦ inr (is ∙ sym p.1) ]
          | inr p ↦ elim which [ inl is ↦ inr (is ∙ sym p.1) | inr is ↦ inl (is ∙ sym p.0) ]
        ]

    -- a use before the last
    early_kept : (u t : ℕ) → Used u t → (t ≡ first) ⊎ (t ≡ last) → u ≤ last → IsTarget new u (target u)
    early_kept u t w which early =
        let before : t < u = w.before in
        let is : t ≡ first = elim which [ inl is ↦ is | inr is ↦ absurd (omega arith) ] in
        kept_alone u t w (λ f s.
        let less : f < u = s.before in
        elim (sees u t f w which s) [ inl f_is ↦ f_is ∙ sym is | inr f_is ↦ absurd (omega arith) ])

    -- a use of the last, which shadows the first
    last_kept : (u t : ℕ) → Used u t → t ≡ last → last < u → (AreParams ss first last → ⊥) → IsTarget new u (target u)
    last_kept u t w is after apart =
        let visible = last_visible u t w (inr is) after in
        subst (IsTarget new u) (sym (w.had ∙ ap Some is)) (inr (record {
          is_use = respelled.role u ∙ w.is;
          visible = visible;
          only = λ f other. elim (sees u t f w (inr is) (seen u f other.candidate)) [
            | inr f_is ↦ f_is
            | inl f_is ↦ absurd (other.not_shadowed last visible.candidate (subst (λ n. InScope new n last) (sym f_is) (shadows apart)))
          ];
        }))

    late_kept : (u t : ℕ) → Used u t → (t ≡ first) ⊎ (t ≡ last) → last < u → (IsLostUse ss targets first last u → ⊥) → IsTarget new u (target u)
    late_kept u t w which after not_lost =
        elim which [
          | inl is ↦ absurd (not_lost (record { is_use = w.is; after = after; had = inl (w.had ∙ ap Some is) }))
          | inr is ↦ last_kept u t w is after (λ params. not_lost (record { is_use = w.is; after = after; had = inr (w.had ∙ ap Some is, params) }))
        ]

    pub clash_kept : (i : ℕ) → i < length ss → (IsLostUse ss targets first last i → ⊥) → IsTarget new i (target i)
    clash_kept i inside not_lost = kept_name i inside (λ is.
        let found = used i is in
        let t = found.0 in
        let w = found.1 in
        elim (cases_eq t d) [
          | inl t_d ↦ either i t w (which_of t (inl t_d)) not_lost
          | inr not_d ↦ elim (cases_eq t e) [
            | inl t_e ↦ either i t w (which_of t (inr t_e)) not_lost
            | inr not_e ↦ neither_kept i t w not_d not_e
          ]
        ])
      where
        either : (u t : ℕ) → Used u t → (t ≡ first) ⊎ (t ≡ last) → (IsLostUse ss targets first last u → ⊥) → IsTarget new u (target u)
        either u t w which not_lost = elim (cases_lt last u) [ inl after ↦ late_kept u t w which after not_lost | inr early ↦ early_kept u t w which early ]

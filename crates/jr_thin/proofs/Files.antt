-- Which files are read.
use Rattle.std.proofs.Common.{◌≡◌, ℕ, ◌+◌, ◌≤◌, Bool, true, false, cond, List, [], ◌∷◌, length, suc, Some, None, Option, refl, sym, ap, subst, ◌∙◌}
use Rattle.std.specs.Prelude.{option_map}
use Rattle.std.proofs.lemmas.Option.{option_and_then_some}
use Rattle.jr_base.specs.declared.kind.Kind.{Kind}
use Rattle.jr_base.specs.declared.token.Token.{Token}
use Rattle.jr_escapes.specs.Escapes.{HasNoBadEscape}
use Rattle.jr_thin.specs.declared.sites.Site.{Site}
use Rattle.jr_thin.specs.declared.reading.Phase.{Phase}
use Rattle.jr_thin.specs.declared.reading.Phase.TheVariants.{Start}
use Rattle.jr_thin.specs.declared.reading.Step.{Step}
use Rattle.jr_thin.specs.Binding.{IsUnbound}
use Rattle.jr_thin.specs.Reading.{terminal_of, next, is_end, site_of, nodes_of, method_after, sites_from, sites_in}
use Rattle.jr_thin.specs.Scopes.{IsBinding, KeepsRule}
use Rattle.jr_thin.specs.Served.{AreTokens, IsRead, IsUnread}
use Rattle.jr_thin.specs.Sites.{site_at, sites_of, plain}
use Rattle.jr_thin.specs.Trees.{kinds_of}
use Rattle.jr_thin.proofs.Accepts.{read_as_class, read_of_class}

none_some : {A : Type 0} (x : A) → None ≡ Some x → ⊥
none_some x e = cc

same_some : {A : Type 0} (x y : A) → Some x ≡ Some y → x ≡ y
same_some x y e = cc

mapped : (s : Site) (o : Option (List Site)) (sites : List Site) → option_map (λ l. s ∷ l) o ≡ Some sites → (rest : List Site) × (o ≡ Some rest) × (s ∷ rest ≡ sites)
mapped s None sites is = absurd (none_some sites is)
mapped s (Some rest) sites is = (rest, refl, same_some (s ∷ rest) sites is)

pub length_from : (phase : Phase) (method node : ℕ) (ks : List Kind) (sites : List Site) → sites_from phase method node ks ≡ Some sites → length sites ≡ length ks
length_from phase method node [] sites is = at_end (is_end phase) is
  where
    at_end : (b : Bool) → cond b (Some []) None ≡ Some sites → length sites ≡ 0
    at_end true is = ap length (sym (same_some [] sites is))
    at_end false is = absurd (none_some sites is)
length_from phase method node (k ∷ ks) sites is =
    option_and_then_some (λ (s : Step). option_map (λ (l : List Site). site_of s.role method node k ∷ l) (sites_from s.phase (method_after method s) (node + nodes_of s ks) ks)) (next phase (terminal_of k)) sites is (λ s found rest.
    let more = mapped (site_of s.role method node k) (sites_from s.phase (method_after method s) (node + nodes_of s ks) ks) sites rest in
    sym (ap length more.2) ∙ ap suc (length_from s.phase (method_after method s) (node + nodes_of s ks) ks more.0 more.1))

pub length_kinds : (tokens : List Token) → length (kinds_of tokens) ≡ length tokens
length_kinds [] = refl
length_kinds (t ∷ ts) = ap suc (length_kinds ts)

pub no_tokens : (bytes : List ℕ) → ((tokens : List Token) → Rattle.jr_base.specs.Reading.Lex bytes tokens → HasNoBadEscape bytes tokens → ⊥) → IsUnread bytes
no_tokens bytes none tokens tree targets reads no_escape binding rule = none tokens reads.lex no_escape

pub no_sites : (bytes : List ℕ) (tokens : List Token) → AreTokens bytes tokens → None ≡ sites_in (kinds_of tokens) → IsUnread bytes
no_sites bytes tokens are none others tree targets reads no_escape binding rule =
    none_some (sites_of tree) (none ∙ read_of_class (kinds_of tokens) tree (ap kinds_of (are.1 others reads.lex) ∙ reads.written))

pub no_targets : (bytes : List ℕ) (tokens : List Token) (sites : List Site) → AreTokens bytes tokens → Some sites ≡ sites_in (kinds_of tokens) → IsUnbound sites → IsUnread bytes
no_targets bytes tokens sites are read unbound others tree targets reads no_escape binding rule =
    let same : sites_of tree ≡ sites = same_some (sites_of tree) sites (sym (read_of_class (kinds_of tokens) tree (ap kinds_of (are.1 others reads.lex) ∙ reads.written)) ∙ sym read) in
    unbound targets (subst (λ l. IsBinding l targets) same binding) (subst KeepsRule same rule)

pub is_read : (bytes : List ℕ) (tokens : List Token) (sites : List Site) (targets : List (Option ℕ)) → AreTokens bytes tokens → Some sites ≡ sites_in (kinds_of tokens) → IsBinding sites targets → KeepsRule sites → IsRead bytes tokens sites targets
is_read bytes tokens sites targets are read binding rule =
    let c = read_as_class (kinds_of tokens) sites (sym read) in
    record { tree = c.0; reads = record { lex = are.0; written = c.1 }; plain = are.2; same = c.2; only = λ others tree reads. (are.1 others reads.lex, same_some sites (sites_of tree) (read ∙ read_of_class (kinds_of tokens) tree (ap kinds_of (are.1 others reads.lex) ∙ reads.written))); size = length_from Start 0 0 (kinds_of tokens) sites (sym read) ∙ length_kinds tokens; binding = binding; rule = rule }

pub past_sites : (sites : List Site) (i : ℕ) → length sites ≤ i → site_at sites i ≡ plain
past_sites sites i order = Rattle.std.proofs.lemmas.List.get_or_past sites i plain order

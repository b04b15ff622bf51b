-- An element whose fields are all there lacks none.
use Rattle.std.proofs.Common.{◌≡◌, not, cond, Option, Some, None, option_map, option_and_then, is_some, codes, refl}
use Rattle.serde_json.specs.Data.{Data}
use Rattle.jr_base.specs.declared.request.Request.{Request}
use Rattle.jr_base.specs.declared.request.Request.TheVariants as request
use Rattle.jr_request.specs.declared.element.Action.{Action}
use Rattle.jr_request.specs.declared.element.Action.TheVariants.{Rename, Move, Extract, Inline, PullUp}
use Rattle.jr_request.specs.declared.element.Field.{Field}
use Rattle.jr_request.specs.declared.element.Field.TheVariants.{File, At, From, To, Name, Package}
use Rattle.jr_request.specs.Batch.{text_at, offset_at, lacking, said_by}

two_there : {A B : Type 0} (a : Option A) (b : Option B) (make : A → B → Request) (r : Request) (f g : Field)
    → option_and_then (λ x. option_map (λ y. make x y) b) a ≡ Some r
    → cond (not (is_some a)) (Some f) (cond (not (is_some b)) (Some g) None) ≡ None
two_there None b make r f g e = cc
two_there (Some x) None make r f g e = cc
two_there (Some x) (Some y) make r f g e = refl

three_there : {A B C : Type 0} (a : Option A) (b : Option B) (c : Option C) (make : A → B → C → Request) (r : Request) (f g h : Field)
    → option_and_then (λ x. option_and_then (λ y. option_map (λ z. make x y z) c) b) a ≡ Some r
    → cond (not (is_some a)) (Some f) (cond (not (is_some b)) (Some g) (cond (not (is_some c)) (Some h) None)) ≡ None
three_there None b c make r f g h e = cc
three_there (Some x) None c make r f g h e = cc
three_there (Some x) (Some y) None make r f g h e = cc
three_there (Some x) (Some y) (Some z) make r f g h e = refl

four_there : {A B C D : Type 0} (a : Option A) (b : Option B) (c : Option C) (d : Option D) (make : A → B → C → D → Request) (r : Request) (f g h i : Field)
    → option_and_then (λ x. option_and_then (λ y. option_and_then (λ z. option_map (λ w. make x y z w) d) c) b) a ≡ Some r
    → cond (not (is_some a)) (Some f) (cond (not (is_some b)) (Some g) (cond (not (is_some c)) (Some h) (cond (not (is_some d)) (Some i) None))) ≡ None
four_there None b c d make r f g h i e = cc
four_there (Some x) None c d make r f g h i e = cc
four_there (Some x) (Some y) None d make r f g h i e = cc
four_there (Some x) (Some y) (Some z) None make r f g h i e = cc
four_there (Some x) (Some y) (Some z) (Some w) make r f g h i e = refl

pub lacking-said : (action : Action) (value : Data) (r : Request) → said_by action value ≡ Some r → lacking action value ≡ None
lacking-said Rename value r e =
    three_there (text_at (codes "file") value) (offset_at (codes "at") value) (text_at (codes "name") value) (λ x y z. request.Rename x y z) r File At Name e
lacking-said Move value r e =
    three_there (text_at (codes "file") value) (offset_at (codes "at") value) (text_at (codes "package") value) (λ x y z. request.Move x y z) r File At Package e
lacking-said Extract value r e =
    four_there (text_at (codes "file") value) (offset_at (codes "from") value) (offset_at (codes "to") value) (text_at (codes "name") value) (λ x y z w. request.Extract x y z w) r File From To Name e
lacking-said Inline value r e =
    two_there (text_at (codes "file") value) (offset_at (codes "at") value) (λ x y. request.Inline x y) r File At e
lacking-said PullUp value r e =
    two_there (text_at (codes "file") value) (offset_at (codes "at") value) (λ x y. request.PullUp x y) r File At e

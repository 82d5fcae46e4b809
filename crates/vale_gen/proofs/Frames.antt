-- What one frame adds.
use Rattle.std.proofs.Common.{ℕ, ◌+◌, ◌*◌, ◌%◌, ◌^◌, ◌≡◌, Bool, true, false, cond, List, [], ◌∷◌, ◌++◌, sym, ap, ◌∙◌, add-one}
use Rattle.nm_types.specs.declared.id.Mac.{Mac}
use Rattle.vale_script.specs.declared.script.Act.{Act}
use Rattle.vale_script.specs.declared.script.Act.TheVariants.{Put, Tx, Rx}
use Rattle.vale_gen.proofs.Adding.{with_more, deeds_more}
use Rattle.vale_gen.specs.Load.{Deed, port_name, number_behind, station, destination, put, puts, syncs, is_followed, frame_deeds, user_deeds}
use Rattle.vale_gen.specs.Sheets.{Sheet, Progress, with_deeds}

pub number_more : (n user frame x : ℕ) → x ≡ number_behind n user frame → (x * 6364136223846793005 + 1442695040888963407) % 2 ^ 64 ≡ number_behind n user (frame + 1)
unfolding number_behind
number_more n user frame x e =
    ap (λ (y : ℕ). (y * 6364136223846793005 + 1442695040888963407) % 2 ^ 64) e ∙ ap (number_behind n user) (sym (add-one frame))

pub put_is : (n user frame x : ℕ) (port : List ℕ) (to from : Mac) (len : ℕ) → port ≡ port_name user → x ≡ number_behind n user (frame + 1) → to ≡ destination x → from ≡ station user → len ≡ 60 + (n + user + frame) % 64 → Put port 1 to from len (frame % 256) ≡ put n user frame
put_is n user frame x port to from len named number a b c =
    ap (λ (p : List ℕ). Put p 1 to from len (frame % 256)) named
    ∙ ap (λ (m : Mac). Put (port_name user) 1 m from len (frame % 256)) (a ∙ ap destination number)
    ∙ ap (λ (m : Mac). Put (port_name user) 1 (destination (number_behind n user (frame + 1))) m len (frame % 256)) b
    ∙ ap (λ (k : ℕ). Put (port_name user) 1 (destination (number_behind n user (frame + 1))) (station user) k (frame % 256)) c

abbrev of_user : ℕ → Act → List Deed
of_user user act = record { user = user; act = act } ∷ []

frame-alone : (s a : Sheet) (n user frame : ℕ) (followed : Bool) → followed ≡ false → followed ≡ is_followed frame → a ≡ with_deeds s (of_user user (put n user frame)) → a ≡ with_deeds s (frame_deeds n user frame)
frame-alone s a n user frame followed without same first =
    first ∙ ap (λ (b : Bool). with_deeds s (puts n user frame ∷ cond b (syncs user) [])) (sym without ∙ same)

frame-and-syncs : (s a b c : Sheet) (n user frame : ℕ) (followed : Bool) → followed ≡ true → followed ≡ is_followed frame → a ≡ with_deeds s (of_user user (put n user frame)) → b ≡ with_deeds a (of_user user (Tx (port_name user))) → c ≡ with_deeds b (of_user user (Rx (port_name user) false)) → c ≡ with_deeds s (frame_deeds n user frame)
frame-and-syncs s a b c n user frame followed is same first second third =
    let tx : List Deed = of_user user (Tx (port_name user)) in
    let rx : List Deed = of_user user (Rx (port_name user) false) in
    let start : List Deed = of_user user (put n user frame) in
    third ∙ ap (λ (x : Sheet). with_deeds x rx) (second ∙ ap (λ (x : Sheet). with_deeds x tx) first ∙ with_more s start tx)
    ∙ with_more s (start ++ tx) rx
    ∙ ap (λ (d : Bool). with_deeds s (puts n user frame ∷ cond d (syncs user) [])) (sym is ∙ same)

-- The same as the code has it: with the user and the port that its struct holds.

pub frame_alone : (s a : Sheet) (p : Progress) (user frame : ℕ) (act : Act) (followed : Bool) → user ≡ p.user → frame ≡ p.frame → act ≡ put p.n p.user p.frame → followed ≡ false → followed ≡ is_followed frame → a ≡ with_deeds s (of_user user act) → a ≡ with_deeds s (frame_deeds p.n p.user p.frame)
frame_alone s a p user frame act followed u j acts without same first =
    frame-alone s a p.n p.user p.frame followed without (same ∙ ap is_followed j)
    (first ∙ ap (λ (x : ℕ). with_deeds s (of_user x act)) u ∙ ap (λ (x : Act). with_deeds s (of_user p.user x)) acts)

pub frame_and_syncs : (s a b d : Sheet) (p : Progress) (user frame : ℕ) (port : List ℕ) (act : Act) (followed : Bool) → user ≡ p.user → frame ≡ p.frame → port ≡ port_name user → act ≡ put p.n p.user p.frame → followed ≡ true → followed ≡ is_followed frame → a ≡ with_deeds s (of_user user act) → b ≡ with_deeds a (of_user user (Tx port)) → d ≡ with_deeds b (of_user user (Rx port false)) → d ≡ with_deeds s (frame_deeds p.n p.user p.frame)
frame_and_syncs s a b d p user frame port act followed u j named acts is same first second third =
    let name : port ≡ port_name p.user = named ∙ ap port_name u in
    frame-and-syncs s a b d p.n p.user p.frame followed is (same ∙ ap is_followed j)
    (first ∙ ap (λ (x : ℕ). with_deeds s (of_user x act)) u ∙ ap (λ (x : Act). with_deeds s (of_user p.user x)) acts)
    (second ∙ ap (λ (x : ℕ). with_deeds a (of_user x (Tx port))) u ∙ ap (λ (x : List ℕ). with_deeds a (of_user p.user (Tx x))) name)
    (third ∙ ap (λ (x : ℕ). with_deeds b (of_user x (Rx port false))) u ∙ ap (λ (x : List ℕ). with_deeds b (of_user p.user (Rx x false))) name)

-- one frame more of a user
pub user_more : (s t u : Sheet) (p : Progress) (n user frame : ℕ) → t ≡ with_deeds s (user_deeds n user frame) → p ≡ record { n = n; user = user; frame = frame } → u ≡ with_deeds t (frame_deeds p.n p.user p.frame) → u ≡ with_deeds s (user_deeds n user (frame + 1))
user_more s t u p n user frame before at more =
    more ∙ ap (λ (q : Progress). with_deeds t (frame_deeds q.n q.user q.frame)) at
    ∙ ap (λ (x : Sheet). with_deeds x (frame_deeds n user frame)) before
    ∙ with_more s (user_deeds n user frame) (frame_deeds n user frame)
    ∙ ap (λ (deeds : List Deed). with_deeds s deeds) (sym (deeds_more n user frame))

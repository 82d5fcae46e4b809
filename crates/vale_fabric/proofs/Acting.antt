-- A call makes the entry of its ask, or leaves the book as it is; then the book goes back.
use Rattle.std.proofs.Common.{◌≡◌, Bool, true, false, Result, Ok, Err, OnOk, OnErr, IfOk, IfErr, Some, sym, ◌∙◌, ap, subst}
use Rattle.std.specs.Prelude.{option_map}
use Rattle.std.specs.Result.{is_ok}
use Rattle.nm_types.specs.declared.fault.StepFault.{StepFault}
use Rattle.nm_turn.specs.Passes.{listed}
use Rattle.nm_turn.specs.Turns.{AddsOne}
use Rattle.vale_entry.specs.declared.entry.Ask.{Ask}
use Rattle.vale_entry.specs.declared.entry.Reply.{Reply}
use Rattle.vale_entry.specs.Legal.{step, reply_of}
use Rattle.vale_own.specs.Asker.{is_enter}
use Rattle.vale_book.specs.Recorded.{Recorded, standing, after_ask, HasRoom, IsRefusal, IsRecordedAs}
use Rattle.vale_fabric.specs.declared.kept.Fixed.{Fixed}
use Rattle.vale_fabric.specs.Fabrics.{Knowing, MayAsk, Answers, Refuses}
use Rattle.vale_fabric.specs.Roots.{fixed_of, root_of}
use Rattle.vale_fabric.specs.Steps.{GoesBack, IsPutBack, IsTaken, is_made}
use Rattle.vale_fabric.proofs.Lent.{legal-made, legal-same}
use Rattle.vale_book.proofs.Said.{IsPlain, Steps, said-by, steps-said}
use Rattle.vale_fabric.proofs.Making.{Made, adds-now, answered, fixed-kept, made, refused, step-now}

pub record Acts (before after : Recorded) (ask : Ask) : Type 0 where
  pub steps : Steps before ask
  pub grown : after ≡ after_ask before ask
  pub room : HasRoom before ask

abbrev pub ActsIf : Bool → Recorded → Recorded → Ask → Type 0
ActsIf true before after ask = Acts before after ask
ActsIf false before after ask = after ≡ before

-- what the book was told to have done: an entry whose reply its answer is, or nothing
pub record Tells {X E : Type 0} (before after : Recorded) (ask : Ask) (reply : X → Reply) (r : Result X E) : Type 0 where
  pub said : IfOk r (λ (x : X). option_map reply_of (step (standing before) ask) ≡ Some (reply x))
  pub made : OnOk r (after ≡ after_ask before ask)
  pub room : OnOk r (HasRoom before ask)
  pub same : OnErr r (after ≡ before)

pub acts-as : {before after : Recorded} {ask : Ask} (reply : Reply) → IsRecordedAs before after ask reply → Acts before after ask
acts-as reply is = record { steps = steps-said reply is.reply_is; grown = is.entry; room = is.room }

module _ (before after : Recorded) (ask : Ask) {X E : Type 0} where
  pub acts-on : (r : Result X E) → Steps before ask → OnOk r (after ≡ after_ask before ask) → OnOk r (HasRoom before ask) → OnOk r (Acts before after ask)
  acts-on (Ok x) steps grown room = record { steps = steps; grown = grown; room = room }
  acts-on (Err fault) steps grown room = tt

  pub acts-told : {reply : X → Reply} (r : Result X E) → Tells before after ask reply r → OnOk r (Acts before after ask)
  acts-told {reply} (Ok x) told = record { steps = steps-said (reply x) told.said; grown = told.made; room = told.room }
  acts-told {reply} (Err fault) told = tt

  pub acts-each : (reply : X → Reply) (r : Result X E) → IfOk r (λ (x : X). IsRecordedAs before after ask (reply x)) → OnOk r (Acts before after ask)
  acts-each reply (Ok x) is = acts-as (reply x) is
  acts-each reply (Err fault) is = tt

  pub acts-ok : (r : Result X E) → OnOk r (Acts before after ask) → OnErr r (after ≡ before) → ActsIf (is_ok r) before after ask
  acts-ok (Ok x) ok err = ok
  acts-ok (Err fault) ok err = err

  pub acts-made : (said : E → Bool) (r : Result X E) → OnOk r (Acts before after ask) → IfErr r (λ (fault : E). ActsIf (said fault) before after ask) → ActsIf (is_made said r) before after ask
  acts-made said (Ok x) ok err = ok
  acts-made said (Err fault) ok err = err

  pub acts-of : (said : E → Bool) (r : Result X E) → ActsIf (is_made said r) before after ask → OnOk r (Acts before after ask)
  acts-of said (Ok x) acts = acts
  acts-of said (Err fault) acts = tt

-- the book may go back

module _ {fixed : Fixed} {v entered : Knowing} {before after : Recorded} {ask : Ask} (taken : IsTaken fixed v entered before) where
  pub goes-back : (made : Bool) → (Acts before after ask → AddsOne root_of (listed entered.stage) entered.mine after.entries) → ActsIf made before after ask → GoesBack fixed entered after made
  goes-back true adds acts = record {
    fixed_is = fixed-kept taken acts.steps acts.grown;
    legal = legal-made taken acts.steps acts.grown acts.room;
    same = λ e. absurd cc;
    adds = λ e. adds acts;
  }
  goes-back false adds same = record {
    fixed_is = ap fixed_of same ∙ sym (ap fixed_of taken.same);
    legal = legal-same taken same;
    same = λ e. ap (λ (b : Recorded). b.entries) same ∙ sym (ap (λ (k : Knowing). listed k.stage) taken.stage);
    adds = λ e. absurd cc;
  }

  pub may-go : {made test : Bool} → made ≡ test → MayAsk fixed v ask → is_enter ask ≡ false → ActsIf test before after ask → GoesBack fixed entered after made
  may-go {made} {test} is may other acts = subst (GoesBack fixed entered after) (sym is) (goes-back test (λ a. adds-now may taken other a.steps a.grown) acts)

  pub goes-told : {X E : Type 0} {made : Bool} {reply : X → Reply} (r : Result X E) → made ≡ is_ok r → MayAsk fixed v ask → is_enter ask ≡ false → Tells before after ask reply r → GoesBack fixed entered after made
  goes-told r is may other told = may-go is may other (acts-ok before after ask r (acts-told before after ask r told) told.same)

  pub goes-now : MayAsk fixed v ask → is_enter ask ≡ false → IsPlain ask → after ≡ after_ask before ask → HasRoom before ask → GoesBack fixed entered after true
  goes-now may other plain grown room = goes-back true (λ a. adds-now may taken other a.steps a.grown) (record { steps = step-now may taken plain; grown = grown; room = room })

-- and the answer holds of what the pass knows

module _ {fixed : Fixed} {v entered w : Knowing} {before after : Recorded} {ask : Ask} (taken : IsTaken fixed v entered before) (back : IsPutBack entered w after) where
  pub acted : Acts before after ask → Made fixed v w before after ask
  acted acts = made taken acts.steps acts.grown acts.room back

  pub answers-now : {reply : Reply} → MayAsk fixed v ask → IsPlain ask → ((steps : Steps before ask) → steps.makes.reply ≡ reply) → after ≡ after_ask before ask → HasRoom before ask
      → Answers fixed v w ask reply
  answers-now may plain said grown room =
      let steps = step-now may taken plain in
      answered (acted (record { steps = steps; grown = grown; room = room })) (said-by steps (said steps))

  pub answers-as : (reply : Reply) → IsRecordedAs before after ask reply → Answers fixed v w ask reply
  answers-as reply is = answered (acted (acts-as reply is)) is.reply_is

  pub if-acted : {X E : Type 0} {P Q : X → Type 0} (r : Result X E) → OnOk r (Acts before after ask) → IfOk r P → ((x : X) → Acts before after ask → P x → Q x) → IfOk r Q
  if-acted (Ok x) acts p all = all x acts p
  if-acted (Err fault) acts p all = tt

module _ (ask : Ask) {fixed : Fixed} {v entered w : Knowing} {before after : Recorded} (taken : IsTaken fixed v entered before) (back : IsPutBack entered w after) {X E : Type 0} where
  pub answers-on : {reply : Reply} (r : Result X E) → OnOk r (Acts before after ask) → option_map reply_of (step (standing before) ask) ≡ Some reply → OnOk r (Answers fixed v w ask reply)
  answers-on (Ok x) acts said = answered (acted taken back acts) said
  answers-on (Err fault) acts said = tt

  pub answers-told : {reply : X → Reply} (r : Result X E) → Tells before after ask reply r → IfOk r (λ (x : X). Answers fixed v w ask (reply x))
  answers-told (Ok x) told = answered (acted taken back (acts-told before after ask (Ok x) told)) told.said
  answers-told (Err fault) told = tt

  pub answers-each : (reply : X → Reply) (r : Result X E) → IfOk r (λ (x : X). IsRecordedAs before after ask (reply x)) → IfOk r (λ (x : X). Answers fixed v w ask (reply x))
  answers-each reply (Ok x) is = answers-as taken back (reply x) is
  answers-each reply (Err fault) is = tt

  pub refuses : (r : Result X E) (fault : E → StepFault) → OnErr r (after ≡ before) → IfErr r (λ (e : E). IsRefusal before ask (fault e)) → IfErr r (λ (e : E). Refuses fixed v w ask (fault e))
  refuses (Ok x) fault same full = tt
  refuses (Err e) fault same full = refused taken same full back

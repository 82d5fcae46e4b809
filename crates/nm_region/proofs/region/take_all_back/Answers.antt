use Rattle.std.proofs.Common.{rules, ℕ, ◌≡◌, ◌-◌, Bool, true, List, [], ◌∷◌, ◌++◌, length, replicate, sym, ap, ◌∙◌, subst}
use Rattle.std.proofs.lemmas.List.{length-set}
use denote.RawPtr.{Ptr, block_of}
use Rattle.nm_region.specs.Returned.{AreComing}
use Rattle.nm_region.proofs.Returns.{coming-less, all-home}
use Rattle.nm_region.proofs.region.take_all_back.Goals as goal

pub loop-buf-preserved : goal.loop-buf-preserved
loop-buf-preserved c =
    let block = c.loop-buf.block in
    let rest = c.pop.new.self.items in
    let buf = c.in-Some.buf in
    let place : ℕ = buf.index - 2 in
    let last : c.loop-buf.all.items ≡ rest ++ buf ∷ [] = c.in-Some.ensures.items in
    let less = coming-less (block_of block.start) block.home c.loop-buf.all.items rest buf last c.loop-buf.invariant.coming in
    let home = c.take_one_back-block.ensures.home in
    let start = c.take_one_back-block.ensures.start in
    record {
      start = start ∙ c.loop-buf.invariant.start;
      size = c.take_one_back-block.ensures.size ∙ c.loop-buf.invariant.size;
      count = ap length home ∙ (length-set block.home place true ∙ c.loop-buf.invariant.count);
      coming = subst (λ (p : Ptr). AreComing (block_of p) c.take_one_back-block.result.home rest) (sym start) (subst (λ (h : List Bool). AreComing (block_of block.start) h rest) (sym home) less);
    }

pub returns-clause-home : goal.returns-clause-home
returns-clause-home c =
    let none : c.loop-buf.all.items ≡ [] = search rules in
    all-home (block_of c.loop-buf.block.start) c.loop-buf.block.home c.loop-buf.all.items none c.loop-buf.invariant.coming ∙ ap (λ (n : ℕ). replicate n true) c.loop-buf.invariant.count

-- What is a session's own stays through the entries of others.
use Rattle.std.proofs.Common.{ℕ, ◌≡◌, List, [], ◌∷◌, ◌++◌, sym, ◌∙◌, ap, subst, append-nil, append_assoc, fold}
use Rattle.std.specs.List.{AllByRecursion as Each}
use Rattle.std.proofs.lemmas.List.Elements.{recursion_from_All}
use Rattle.vale_entry.specs.declared.entry.Entry.{Entry}
use Rattle.vale_entry.specs.Legal.{Standing, after, fresh_standing, standing_of, Follows, IsLegal, IsLegalFrom}
use Rattle.vale_entry.proofs.Worlds.{standing-push}
use Rattle.vale_entry.proofs.HistoryLaws.{history-stands}
use Rattle.vale_own.specs.Own.{own_of}
use Rattle.vale_own.specs.Laws.{IsOfOther, OwnIsKept}
use Rattle.vale_own.proofs.OwnSteps.{keeps-own}

legal_from-split : (s : Standing) (past more : List Entry) → IsLegalFrom s (past ++ more) → IsLegalFrom s past × IsLegalFrom (fold after s past) more
legal_from-split s [] more legal = (tt, legal)
legal_from-split s (e ∷ es) more legal = let rest = legal_from-split (after s e) es more legal.1 in ((legal.0, rest.0), rest.1)

-- what comes first is legal, and so is what follows
pub legal-split : (pool : ℕ) (past more : List Entry) → IsLegal pool (past ++ more) → IsLegal pool past × IsLegalFrom (standing_of pool past) more
legal-split pool past more legal = legal_from-split (fresh_standing pool) past more legal

-- an entry of another session
pub own-entry : (pool : ℕ) (past : List Entry) (e : Entry) (session : ℕ) → IsLegal pool past → Follows (standing_of pool past) e → IsOfOther session e
    → own_of session (standing_of pool (past ++ e ∷ [])) ≡ own_of session (standing_of pool past)
own-entry pool past e session legal follows other =
    let k = history-stands pool past legal in
    ap (own_of session) (standing-push pool past e) ∙ keeps-own session (standing_of pool past) e k.numbered k.held k.single follows other

own-past : (pool : ℕ) (past more : List Entry) (session : ℕ) → IsLegal pool (past ++ more) → Each (IsOfOther session) more
    → own_of session (standing_of pool (past ++ more)) ≡ own_of session (standing_of pool past)
own-past pool past [] session legal others = ap (λ (h : List Entry). own_of session (standing_of pool h)) (append-nil past)
own-past pool past (e ∷ es) session legal others =
    let whole : past ++ e ∷ es ≡ (past ++ e ∷ []) ++ es = sym (append_assoc past (e ∷ []) es) in
    let parts = legal-split pool past (e ∷ es) legal in
    ap (λ (h : List Entry). own_of session (standing_of pool h)) whole
    ∙ (own-past pool (past ++ e ∷ []) es session (subst (IsLegal pool) whole legal) others.1 ∙ own-entry pool past e session parts.0 parts.1.0 others.0)

pub own-kept : OwnIsKept
own-kept pool past more session legal others = own-past pool past more session legal (recursion_from_All (IsOfOther session) more others)

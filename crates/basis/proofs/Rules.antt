-- The one list of rules with which a branch on numbers is answered.
use borrow.Author.Rules.{rules}
use borrow.Author.Tests.{lt-ltb, le-ltb, le-leb, lt-leb, eq-eqb, ne_eqb}

pub ruleset cases = (rules, lt-ltb, le-ltb, le-leb, lt-leb, eq-eqb, ne_eqb)

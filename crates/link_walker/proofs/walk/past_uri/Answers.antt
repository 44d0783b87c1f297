use Rattle.link.specs.Syntax.{uri_due}
use Rattle.link_walker.proofs.Stages.{due, not-due, uri-6, uri-none, uri-7, uri-8, uri-past}
use borrow.Author.Rules.{rules}
use Rattle.link_walker.proofs.walk.past_uri.Goals as goal

pub returns-then-have-lt-HEAD : goal.returns-then-have-lt-HEAD
returns-then-have-lt-HEAD c =
    let args = c.args in
    uri-6 args.s.now c.if-have-lt-HEAD.true

pub returns-then-not-has_uri : goal.returns-then-not-has_uri
returns-then-not-has_uri c =
    let type-of = c.type_of in
    let s = c.args.s.now in
    let four = c.if-have-lt-HEAD.false in
    uri-none s four (not-due uri_due s _ _ type-of.ensures c.has_uri.ensures c.if-not-has_uri.true)

pub returns-then-have-lt-URI_START : goal.returns-then-have-lt-URI_START
returns-then-have-lt-URI_START c =
    let has-uri = c.has_uri in
    let s = c.args.s.now in
    let four = c.if-have-lt-HEAD.false in
    let t = c.type_of.ensures in
    uri-7 s four (due uri_due s _ _ t has-uri.ensures c.if-not-has_uri.false) c.if-have-lt-URI_START.true

pub returns-then-have-end : goal.returns-then-have-end
returns-then-have-end c =
    let s = c.args.s.now in
    let t = c.type_of.ensures in
    let u = c.has_uri.ensures in
    let d = c.if-not-has_uri.false in
    let five = c.if-have-lt-URI_START.false in
    let w = c.wide-end.ensures.0 in
    rw w (uri-8 s (due uri_due s _ _ t u d) five (rw w at c.if-have-end.true))

pub returns : goal.returns
returns c =
    let s = c.args.s.now in
    let t = c.type_of.ensures in
    let u = c.has_uri.ensures in
    let d = c.if-not-has_uri.false in
    let five = c.if-have-lt-URI_START.false in
    let w = c.wide-end.ensures.0 in
    rw w (uri-past s (due uri_due s _ _ t u d) five (rw w at c.if-have-end.false))

use Prim.Native.Nat.{◌≤◌, ◌<◌}
use mathlib.Core.Option.{none}
use mathlib.Core.Path.{◌≡◌, ap, ◌∙◌, subst}
use native.Mathlib.Omega.{arith}
use Rattle.std.specs.Prelude.{Err}
use Rattle.std.proofs.Common.{rules}
use Rattle.std.proofs.lemmas.List.{length-take}
use Rattle.art.specs.Stores.{lent}
use Rattle.records.proofs.Pages.{count_least, count-few}
use Rattle.records.proofs.Checks.{Formed, formed}
use Rattle.records.specs.Refusals.{first_refusal}
use Rattle.records.specs.declared.refusal.Refusal.TheVariants.{TooLarge, ImageLimit}
use Rattle.records.specs.Records.{size_of}
use Rattle.records.specs.Layouts.{standing, page_count}
use Rattle.records.specs.declared.texture_packer_config.Config.{Config}
use Rattle.rules.specs.Operations.{art_for, too_large}
use Rattle.faithful.proofs.Sofar.{skies-as}
use Rattle.offers.specs.Offers.{Stepped, art_rest}
use Rattle.offers.proofs.Rows.{on-ok, unless-ok, unless-err, refused, room_large, room_images, rest-refused, rest-made, step-answer}
use Rattle.offers.proofs.record_of_offer.Goals.{Start}
use Rattle.offers.proofs.record_of_offer.Goals.{In_ok-a, After-too_large}
use Rattle.offers.proofs.record_of_offer.Goals as goal

form : (c : Start) → Formed c.args.l.layout.now
form c = formed c.args.l.layout.now c.args.l.tested

few-pages : (c : Start) → page_count (standing c.args.l.layout.now) ≤ c.args.l.layout.now.config.pages
few-pages c = count_least (standing c.args.l.layout.now) _ (λ r m. ((form c).each r m).page)

-- 4 to 7 do not hold, and the art is the offer's
made : (c : In_ok-a) → let a = c.args in
    (c.in_ok-a.a ≡ art_for a.l.layout.now.config (lent a.stores) a.key a.image) × (first_refusal (art_rest a.l.layout.now (lent a.stores) a.key a.image) ≡ none)
made c = unless-ok _ _ _ c.in_ok-a.ensures.is

-- 8, by the layout's own configuration
large : (c : After-too_large) → c.too_large.result ≡ too_large c.args.l.layout.now.config (size_of c.in_ok-a.a.kept)
unfolding size_of
large c = c.too_large.ensures ∙ ap (λ (k : Config). too_large k (size_of c.in_ok-a.a.kept)) c.config-c.ensures

limit : (c : After-too_large) → c.config-c.result.config.images ≡ c.args.l.layout.now.config.images
limit c = ap (λ (k : Config). k.images) c.config-c.ensures

pub returns-in_err-a-clause-is : goal.returns-in_err-a-clause-is
returns-in_err-a-clause-is c =
    let e : c.from_residual.result ≡ Err c.in_err-a.field-0.0 = search rules in
    e ∙ refused _ _ _ (rest-refused c.args.l.layout.now (lent c.args.stores) c.args.key c.args.image _ (unless-err _ _ _ c.in_err-a.ensures.is))

pub too_large-requires : goal.too_large-requires
unfolding size_of
too_large-requires c = c.in_ok-a.ensures.sized.1

pub returns-then-too_large-clause-is : goal.returns-then-too_large-clause-is
unfolding size_of
returns-then-too_large-clause-is c =
    let m = made (goal.at.returns-then-too_large-clause-is c).In_ok-a in
    rest-made c.args.l.layout.now (lent c.args.stores) _ _ _ _ m.0 m.1 (refused _ _ TooLarge (room_large c.args.l.layout.now c.in_ok-a.a _ (large (goal.at.returns-then-too_large-clause-is c).After-too_large) c.if-too_large.true))

pub returns-then-c-l-clause-is : goal.returns-then-c-l-clause-is
unfolding size_of
returns-then-c-l-clause-is c =
    let m = made (goal.at.returns-then-c-l-clause-is c).In_ok-a in
    rest-made c.args.l.layout.now (lent c.args.stores) _ _ _ _ m.0 m.1 (refused _ _ ImageLimit (room_images c.args.l.layout.now c.in_ok-a.a _ (large (goal.at.returns-then-c-l-clause-is c).After-too_large) c.if-too_large.false (omega (arith, limit (goal.at.returns-then-c-l-clause-is c).After-too_large, c.if-c-l.true))))

pub place_art-requires : goal.place_art-requires
unfolding standing
place_art-requires c =
    let f = form (goal.at.place_art-requires c).Start in
    let n = length-take c.args.l.layout.now.count c.args.l.layout.now.records in
    let e = c.requires in
    let z = c.in_ok-a.ensures.sized in record {
      c_value = (omega (arith, e.count, count-few _ c.args.l.tested), z.0, z.1);
      some_skies = (_, skies-as c.config-c.ensures e, omega (arith, n, f.config.images_few, limit (goal.at.place_art-requires c).After-too_large, c.if-c-l.false));
    }

pub returns-clause-is : goal.returns-clause-is
unfolding size_of
returns-clause-is c =
    let m = made (goal.at.returns-clause-is c).In_ok-a in
    rest-made c.args.l.layout.now (lent c.args.stores) _ _ _ _ m.0 m.1
    (step-answer c.args.l.layout.now c.in_ok-a.a _ _ (few-pages (goal.at.returns-clause-is c).Start) (large (goal.at.returns-clause-is c).After-too_large) c.if-too_large.false (omega (arith, limit (goal.at.returns-clause-is c).After-too_large, c.if-c-l.false))
    (subst (λ (k : Config). Stepped k (standing c.args.l.layout.now) c.in_ok-a.a c.place_art.result c.place_art.new.skies) c.config-c.ensures (c.place_art.ensures (standing c.args.l.layout.now) (skies-as c.config-c.ensures c.requires))).is)

pub returns-clause-room : goal.returns-clause-room
returns-clause-room c = let f = (form (goal.at.returns-clause-room c).Start).config.images_few in let room : c.args.l.layout.now.count < 256 = omega (arith, limit (goal.at.returns-clause-room c).After-too_large) in on-ok _ room

use Rattle.std.proofs.Common.{◌∙◌, ℕ, ◌<◌, List, [], ◌∷◌, ◌++◌, length, map, take, get_or, arith, sym, ap}
use Rattle.std.proofs.lemmas.List.{get_or-map, length-map, length-take-le, map_more, map_push, take_all}
use Rattle.hlc_stamp.specs.declared.id.EventId.{EventId}
use Rattle.hlc_stamp.specs.Ids.{places_of}
use Rattle.hlc_log.specs.CausalOrder.{place_at}
use Rattle.hlc_log.proofs.order.places_in.Goals as goal

abbrev number : EventId → ℕ
number id = id.0

abbrev none : EventId
none = record { 0 = 0 }

pub loop-position-init : goal.loop-position-init
loop-position-init c = record {
  places = ap (λ (ids : List EventId). places_of ids) c.in_ok-places.ensures.items;
  room = omega (arith, c.in_ok-places.ensures.capacity);
}

pub push_reserved-requires : goal.push_reserved-requires
push_reserved-requires c =
    let k = c.loop-position.position-index in
    let so_far = take k c.args.order.now in
    let items = c.loop-position.places.items in
    let same = ap (λ (places : List ℕ). length places) c.loop-position.invariant.places in
    let size = length-map items number in
    let mapped = length-map (places_of so_far) (place_at (places_of c.args.standing.now)) in
    let ids = length-map so_far number in
    let taken = length-take-le k c.args.order.now (omega (arith, c.loop-position-test.true)) in
    omega (arith, same, size, mapped, ids, taken, c.loop-position.places.ok.0, c.loop-position.invariant.room, c.loop-position-test.true)

pub loop-position-preserved : goal.loop-position-preserved
loop-position-preserved c =
    let order = c.args.order.now in
    let standing = c.args.standing.now in
    let k = c.loop-position.position-index in
    let so_far = places_of (take k order) in
    let position = (get_or order k none).0 in
    let lt : k < length order = c.loop-position-test.true in
    let exists : position < length standing = c.requires k none lt in
    let listed = place_at (places_of standing) in
    let items = c.loop-position.places.items in
    record {
      places =
          ap (λ (ids : List EventId). places_of ids) c.push_reserved.ensures.items
          ∙ map_push number items (get_or standing position none)
          ∙ ap (λ (xs : List ℕ). xs ++ (get_or standing position none).0 ∷ []) c.loop-position.invariant.places
          ∙ ap (λ (n : ℕ). map listed so_far ++ n ∷ []) (sym (get_or-map number standing position none 0 exists))
          ∙ sym (map_push listed so_far position)
          ∙ ap (map listed) (sym (map_more number order k none lt));
      room = omega (arith, c.loop-position.invariant.room, c.push_reserved.ensures.capacity);
    }

pub returns : goal.returns
returns c =
    let end = c.loop-position-test.false in
    let within = c.loop-position.auto.position-index-end in
    c.loop-position.invariant.places
    ∙ ap (λ (ids : List EventId). map (place_at (places_of c.args.standing.now)) (places_of ids))
    (take_all c.loop-position.position-index c.args.order.now (omega arith))

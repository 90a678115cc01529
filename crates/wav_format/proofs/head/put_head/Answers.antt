-- `wav_format::head::put_head` meets its contract: three parts are put one behind the other. Assumes nothing.
use Rattle.std.proofs.Common.{ℕ, ◌*◌, ◌≤◌, length, sym, refl, le_trans, mul-le-mul, arith, lit≤, length-take-le}
use Rattle.wav_format.specs.Laws.Head.{Sizes, sizes, head_put}
use Rattle.wav_format.proofs.head.put_head.Goals as goal

pub following_bytes-rest-requires : goal.following_bytes-rest-requires
following_bytes-rest-requires c =
    let s = sizes c.args.mask c.head_bytes-long.ensures refl refl in
    record {
      in_bounds = le_trans (lit≤ tt) s.least;
      length_len_bound = s.most;
    }

-- the bytes a second
seconds : (channels samples : ℕ) → channels ≤ 8 → samples ≤ 480 → samples * 100 * (2 * channels) ≤ 768000
seconds channels samples h k =
    let a : samples * 100 ≤ 48000 = omega arith in
    let b : 2 * channels ≤ 16 = omega arith in
    mul-le-mul a b

pub overflow_mul-second : goal.overflow_mul-second
overflow_mul-second c =
    omega (arith, seconds c.args.channels c.args.samples c.requires.channels_bound c.requires.samples_bound)

pub overflow_add-kind : goal.overflow_add-kind
overflow_add-kind c = omega (arith, (sizes c.args.mask refl c.pick-tag.ensures refl).small)

pub put_fours-requires : goal.put_fours-requires
put_fours-requires c =
    let sizes-of_here : Sizes c.head_bytes-long.result c.pick-tag.result c.pick-n.result = sizes c.args.mask c.head_bytes-long.ensures c.pick-tag.ensures c.pick-n.ensures in
    let room_here : c.head_bytes-long.result ≤ length c.args.out.now = rw c.head_bytes-long.ensures c.requires.mask_in_bounds in
    omega (arith, sizes-of_here.least, room_here)

pub slice_bounds-more-end : goal.slice_bounds-more-end
slice_bounds-more-end c =
    let sizes-of_here : Sizes c.head_bytes-long.result c.pick-tag.result c.pick-n.result = sizes c.args.mask c.head_bytes-long.ensures c.pick-tag.ensures c.pick-n.ensures in
    sizes-of_here.few

pub slice_bounds-put_fours-end-2 : goal.slice_bounds-put_fours-end-2
slice_bounds-put_fours-end-2 c =
    let sizes-of_here : Sizes c.head_bytes-long.result c.pick-tag.result c.pick-n.result = sizes c.args.mask c.head_bytes-long.ensures c.pick-tag.ensures c.pick-n.ensures in
    sym (length-take-le _ _ sizes-of_here.few)

pub put_fours-requires-2 : goal.put_fours-requires-2
put_fours-requires-2 c =
    let sizes-of_here : Sizes c.head_bytes-long.result c.pick-tag.result c.pick-n.result = sizes c.args.mask c.head_bytes-long.ensures c.pick-tag.ensures c.pick-n.ensures in
    let room_here : c.head_bytes-long.result ≤ length c.args.out.now = rw c.head_bytes-long.ensures c.requires.mask_in_bounds in
    let few : c.pick-n.result ≤ 6 = sizes-of_here.few in
    rw length-take-le (omega (arith, sizes-of_here.all, room_here, c.put_fours.auto.out))

pub overflow_sub-long : goal.overflow_sub-long
overflow_sub-long c =
    let sizes-of_here : Sizes c.head_bytes-long.result c.pick-tag.result c.pick-n.result = sizes c.args.mask c.head_bytes-long.ensures c.pick-tag.ensures c.pick-n.ensures in
    omega (arith, sizes-of_here.least)

pub put_fours-requires-3 : goal.put_fours-requires-3
put_fours-requires-3 c =
    let sizes-of_here : Sizes c.head_bytes-long.result c.pick-tag.result c.pick-n.result = sizes c.args.mask c.head_bytes-long.ensures c.pick-tag.ensures c.pick-n.ensures in
    let room_here : c.head_bytes-long.result ≤ length c.args.out.now = rw c.head_bytes-long.ensures c.requires.mask_in_bounds in
    omega (arith, sizes-of_here.least, room_here, c.put_fours.auto.out, c.put_fours-2.auto.out)

pub returns : goal.returns
returns c =
    let a = c.args in
    head_put a.channels a.samples a.mask a.size a.out.now c.requires.channels_bound c.head_bytes-long.ensures c.following_bytes-rest.ensures
    c.pick-bytes.ensures c.pick-tag.ensures c.pick-n.ensures c.put_fours.ensures c.put_fours-2.ensures c.put_fours-3.ensures

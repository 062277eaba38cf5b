mod BoundLaws
mod MemberLaws
mod ToldLaws
mod GatherLaws
mod WatermarkLaws
mod FollowLaws

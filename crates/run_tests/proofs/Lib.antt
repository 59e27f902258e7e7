mod FirstWord
mod Within
mod FirstTaken

mod Sound
